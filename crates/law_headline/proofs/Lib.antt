pub mod Whole
pub mod CompiledScripts
