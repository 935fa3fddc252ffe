pub mod Opening
pub use Rattle.rm_site.specs.ComesOut
pub use Rattle.rm_site.specs.Faults
pub use Rattle.rm_site.specs.Opens
pub use Rattle.rm_site.specs.Saved
pub use Rattle.rm_site.specs.Shown
pub use Rattle.rm_site.specs.Untouched
