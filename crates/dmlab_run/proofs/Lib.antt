mod MovedLemmas
mod AnswerLemmas
mod PartLemmas
mod ReadingRules
mod RunningLemmas
mod StudyLemmas
mod TotalsLemmas
