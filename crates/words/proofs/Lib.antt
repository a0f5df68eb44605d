pub mod StringsLaws
