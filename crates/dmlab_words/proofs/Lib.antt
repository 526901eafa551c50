mod CommandLineLaws
mod CommandLineLemmas
mod FlagLaws
mod FlagTexts
mod MakingLemmas
