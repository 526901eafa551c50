pub mod Law
pub mod NoDefault
