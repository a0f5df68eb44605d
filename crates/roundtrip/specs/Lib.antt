pub mod Returns
pub mod OctetsLaws
pub mod RoundTrip
