pub mod Teams
pub mod Items
pub mod Posts
pub mod SettingLemmas
pub mod OfFilm
