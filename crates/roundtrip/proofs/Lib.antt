pub mod JoinedReturns
pub mod RecordReturns
pub mod RoundTripLaws
