pub mod Why
pub mod Read
pub mod ReadLaws
pub mod Text
pub mod TextLaws
