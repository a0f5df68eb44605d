pub mod Values
pub mod ListLaws
pub mod ValueLaws
pub mod StringLaws
