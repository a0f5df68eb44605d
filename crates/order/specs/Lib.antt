pub mod Order
pub mod Listed
pub mod OrderLaws
pub mod ExchangeLaws
pub mod MergeLaws
pub mod MapLaws
