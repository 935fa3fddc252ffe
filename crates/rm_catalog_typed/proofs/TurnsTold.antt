-- The switches of a catalog have the numbers 1, 2, 3 and so on, and come in turn.
use Rattle.std.specs.{List.{filter_map}, Option.{option_map_or}}
use Rattle.std.proofs.Common.{◌≡◌, ◌+◌, ◌<◌, ℕ, List, map, slice_get, Some, refl, ap, sym, subst, arith, Contains}
use Rattle.std.proofs.lemmas.List.Elements.{All-contains}
use Rattle.rm_base.proofs.Lists.{map_from}
use Rattle.rm_catalog.specs.{Keys.{base, switch_in}, Rules.{IsCatalog}, Switches.{IsAt}, Trees.{nodes}}
use Rattle.rm_catalog.specs.declared.record.{BaseEntry.{BaseEntry}, Record.{Record}, SwitchEntry.{SwitchEntry}}
use Rattle.rm_catalog.proofs.{Switching.{switch-rule}, SwitchNumbers.{switch-number}, Trees.{path_is}, Numbering.{at-is}}
use Rattle.rm_catalog.specs.declared.record.Record.TheVariants as records
use Rattle.rm_catalog_typed.specs.{Kinds.{AreSmall, IsSmall, switched_by}, Ledger.{numbered, switch_record}, Switches.{ComeInTurn}}
use Rattle.rm_catalog_typed.{specs.declared.thread_switch.ThreadSwitch.{ThreadSwitch}, proofs.ByKind.{is-switch, made, numbered-by}}
use Rattle.rm_catalog_typed.proofs.{Lookups.{in-numbered, switch_entry}, Told.{on-incarnation}, Turns.{Tells, next-from}}

module _ (rs : List Record) (c : IsCatalog rs) (small : AreSmall rs) where
  -- what the switches among the records say, in order
  abbrev entries : List SwitchEntry
  entries = filter_map switch_in rs

  numbers : (x : SwitchEntry) → Contains rs (records.Switch x) → x.id < 4294967296
  numbers x has = let few = (All-contains IsSmall rs (records.Switch x) small has).0 in omega arith

  pub switches-told : map records.Switch entries ≡ numbered switch_record 1 (map switched_by entries)
  switches-told = numbered-by records.Switch switch_record switched_by (λ x. x.id) (λ x. refl) 1 entries (λ k d lt. let is = switch-number rs k d c numbers lt in omega arith)

  -- each has its record
  held : (k : ℕ) (x : ThreadSwitch) → slice_get (map switched_by entries) k ≡ Some x → Contains rs (switch_record (1 + k) x)
  held k x at =
      let r = switch_record (1 + k) x in
      let from = map_from records.Switch entries r (subst (λ (qs : List Record). Contains qs r) (sym switches-told) (in-numbered switch_record 1 (map switched_by entries) k x at)) in
      subst (Contains rs) from.is (made records.Switch switch_in 10 is-switch rs from.item from.held)

  module _ (b : BaseEntry) (is : base rs ≡ Some b) where
    tells : Tells rs (nodes rs) b.threads (map switched_by entries)
    tells = record {
      began = ap (λ o. option_map_or (λ (x : BaseEntry). x.threads) o 0) is;
      paths = λ i g there. path_is rs i g c there;
      found = λ k x at. at-is rs (switch_record (1 + k) x) c (held k x at);
    }

    pub switches-fit : ComeInTurn (nodes rs) b.threads (map switched_by entries)
    switches-fit k x at =
        let rule = switch-rule rs (switch_entry (1 + k) x) c (held k x at) in
        let on = on-incarnation rs x.inc (IsAt (switch_entry (1 + k) x)) c rule.range in
        let reset = on.holds.reset in
        let end = on.holds.end in
        let from = on.reset in
        let to = on.end in
        next-from rs (nodes rs) b.threads (map switched_by entries) tells k x at on.there (omega arith, omega arith) (All-contains IsSmall rs (switch_record (1 + k) x) small (held k x at)).1 rule
