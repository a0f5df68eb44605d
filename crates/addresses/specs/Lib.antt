pub mod Addresses
pub mod AddressesLaws
pub mod CountLaws
pub mod Ranges
pub mod RangesLaws
