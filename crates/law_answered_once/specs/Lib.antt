pub mod AnsweredOnce
pub mod LineOrder
