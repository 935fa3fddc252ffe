-- What is so of a site that was opened for a call.
use Rattle.std.{specs.Prelude.{IfOk, OnOk}, proofs.Common.{◌≡◌, ℕ, List, Option, Some, IfSome, Result, Ok, Err, subst}}
use Rattle.rm_base.specs.Store.{Held}
use Rattle.rm_catalog.specs.{Faults.{IsBadRow}, declared.catalog.CatalogFault.TheVariants.{BadRow}, declared.record.Record.{Record}}
use Rattle.rm_catalog.proofs.Unique.{none_valid}
use Rattle.rm_machine_laws.specs.Holds.{View}
use Rattle.rm_site.specs.Opens.{AreValid, Opens, Shows}
pub use Rattle.rm_site.proofs.Opening.{told-err}
use Rattle.rm_tool_opening.specs.{Opening.{IsSource, TellsValid, WritesBadRecord}, declared.opening.Unopened.{Unopened}}

-- the site that was opened
pub source-of : (held : Option Held) (records : Option (List Record)) (r : Result View Unopened) (v : View) → r ≡ Ok v → IfOk r (Opens held records) → IfOk r (Shows held records) → OnOk r (TellsValid records) → IsSource held records v
source-of held records (Ok w) v is opens shows valid =
    let same : w ≡ v = cc in
    subst (IsSource held records) same (record { opens = opens; shows = shows; valid = valid })
source-of held records (Err e) v is opens shows valid = absurd (cc)

-- the records that are told are valid
pub told-valid : {kept : Option (List Record)} (rs : List Record) → kept ≡ Some rs → TellsValid kept → AreValid rs
told-valid rs is valid = subst (λ (o : Option (List Record)). IfSome o AreValid) is valid

-- and then none of them breaks a rule
pub none-bad : {kept : Option (List Record)} {before now : Option (List ℕ)} (rs : List Record) → kept ≡ Some rs → AreValid rs → WritesBadRecord kept before now → ⊥
none-bad rs is valid writes =
    let key = writes.bad.key in
    let bad = subst (λ (o : Option (List Record)). IfSome o (λ qs. IsBadRow qs (BadRow key.kind key.id))) is writes.bad.first in
    none_valid rs valid.0 bad.0 (record { kind = key.kind; id = key.id }) bad.1 bad.2 valid.1 valid.2
