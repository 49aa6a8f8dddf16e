-- SHA-256: `Fips180` is the standard, and all that the contract of `digest` cites. `Private` is for the contracts of private functions.
pub mod Fips180
pub mod Private
