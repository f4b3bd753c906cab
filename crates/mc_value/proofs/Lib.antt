pub mod DigitLemmas
pub mod MapLemmas
pub mod PathLemmas
pub mod Same
pub mod SecondsLemmas
