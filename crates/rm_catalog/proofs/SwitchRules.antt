-- No two switches of a catalog have one address.
use Rattle.std.specs.Prelude.{IfSome, option_and_then}
use Rattle.std.proofs.{Common.{◌≡◌, ◌<◌, List, Option, Some, ap, sym, subst, ◌∙◌, arith, inl, inr, Contains}, lemmas.Bool.{cases_order}}
use Rattle.std.proofs.lemmas.Option.{same_Some}
use Rattle.rm_catalog.specs.{Keys.{switch, switch_in}, Rules.{IsCatalog}, Switches.{switch_of, switches}, declared.record.Record.{Record}}
use Rattle.rm_catalog.{specs.declared.record.SwitchEntry.{SwitchEntry}, proofs.{Switching.{switch-rule, switch-told}, Numbering.{at-is}}}
use Rattle.rm_catalog.specs.declared.record.Record.TheVariants as records
use Rattle.rm_history.specs.declared.world.Switch.{Switch}

-- a switch's record is found by its number
pub switch-at : (rs : List Record) (x : SwitchEntry) → IsCatalog rs → Contains rs (records.Switch x) → switch x.id rs ≡ Some x
switch-at rs x c has = ap (λ (o : Option Record). option_and_then switch_in o) (at-is rs (records.Switch x) c has)

-- one before lies below it, where both are of one incarnation
pub switch-below : (rs : List Record) (x y : SwitchEntry) → IsCatalog rs → Contains rs (records.Switch x) → Contains rs (records.Switch y) → x.id < y.id → x.inc ≡ y.inc → x.scn < y.scn
switch-below rs x y c one two less =
    subst (λ (o : Option SwitchEntry). IfSome o (λ z. z.inc ≡ y.inc → z.scn < y.scn)) (switch-at rs x c one) ((switch-rule rs y c two).above x.id less)

pub one-switch : (rs : List Record) (x y : Switch) → IsCatalog rs → Contains (switches rs) x → Contains (switches rs) y → x.inc ≡ y.inc → x.scn ≡ y.scn → x ≡ y
one-switch rs x y c one two inc scn =
    let a = switch-told rs x one in
    let b = switch-told rs y two in
    let same_inc : a.entry.inc ≡ b.entry.inc = ap (λ (z : Switch). z.inc) a.is ∙ inc ∙ sym (ap (λ (z : Switch). z.inc) b.is) in
    let same_scn : a.entry.scn ≡ b.entry.scn = ap (λ (z : Switch). z.scn) a.is ∙ scn ∙ sym (ap (λ (z : Switch). z.scn) b.is) in
    elim (cases_order a.entry.id b.entry.id) [
      | inl same ↦
          let entries : Some a.entry ≡ Some b.entry = sym (switch-at rs a.entry c a.held) ∙ ap (λ n. switch n rs) same ∙ switch-at rs b.entry c b.held in
          sym a.is ∙ ap switch_of (same_Some a.entry b.entry entries) ∙ b.is
      | inr (inl less) ↦ let low = switch-below rs a.entry b.entry c a.held b.held less same_inc in absurd (omega (arith, low, same_scn))
      | inr (inr more) ↦ let low = switch-below rs b.entry a.entry c b.held a.held more (sym same_inc) in absurd (omega (arith, low, same_scn))
    ]
