-- The switches of a catalog have the numbers 1, 2, 3 and so on.
use Rattle.std.specs.{Prelude.{IsSome, option_and_then}, List.{filter_map, cons_option}, Option.{option_map}}
use Rattle.std.proofs.Common.{◌≡◌, ℕ, suc, ◌+◌, ◌-◌, ◌<◌, List, [], ◌∷◌, length, get_or, map, Option, Some, None, refl, ap, sym, subst, ◌∙◌, arith, Contains, AllPairs}
use Rattle.std.proofs.lemmas.{Bool.{false≢true}, List.{get_or-map, length-map, Elements.{Contains-get_or}}}
use Rattle.rm_catalog.specs.{Keys.{place, place_of, at, switch, switch_in}, Rules.{IsCatalog}, Switches.{switch_of, switches}}
use Rattle.rm_catalog.{specs.declared.record.{SwitchEntry.{SwitchEntry}, Record.{Record}}, proofs.Numbering.{at-is, rises_catalog}}
use Rattle.rm_catalog.proofs.{Switching.{AreFound, is-switch, switch-rule}, Telling.{record-told, told-ascends, told-record}}
use Rattle.rm_catalog.proofs.Told.{found_is}
use Rattle.rm_catalog.specs.declared.record.Record.TheVariants as records
use Rattle.rm_base.proofs.Gapless.{HasNoGap, numbers-are}
use Rattle.rm_history.specs.declared.world.Switch.{Switch}

-- what the switches among the records say, in order
abbrev pub entries : List Record → List SwitchEntry
entries rs = filter_map switch_in rs

-- their numbers fit into 32 bits
abbrev pub AreSmall : List Record → Type 0
AreSmall rs = (x : SwitchEntry) → Contains rs (records.Switch x) → x.id < 4294967296

entry-record : (rs : List Record) (x : SwitchEntry) → Contains (entries rs) x → Contains rs (records.Switch x)
entry-record rs x has = let from = told-record switch_in rs x has in subst (Contains rs) (is-switch from.0 x from.2) from.1

-- the switch of a number is at its place
placed : (r : Record) (n : ℕ) → n < 4294967295 → place_of r ≡ place 10 n → (x : SwitchEntry) × (r ≡ records.Switch x) × (x.id ≡ n)
placed = elim [
  | records.Switch x ↦ λ n small here. (x, refl, omega arith)
  | r ↦ λ n small here. absurd (omega arith)
]

ascends : (rs : List Record) → IsCatalog rs → AllPairs (λ x y. x.id < y.id) (entries rs)
ascends rs c =
    told-ascends switch_in (λ (x : SwitchEntry). x.id)
    (λ r s x y one two less.
    let first = ap place_of (is-switch r x one) in
    let second = ap place_of (is-switch s y two) in
    omega arith) 0 rs (rises_catalog rs c)

gapless : (rs : List Record) → IsCatalog rs → AreSmall rs → HasNoGap SwitchEntry (λ x. x.id) (entries rs)
gapless rs c small = record {
  low = λ x has. (switch-rule rs x c (entry-record rs x has)).number;
  below = λ x has more.
      let there = entry-record rs x has in
      before x (small x there) (at (place 10 (x.id - 1)) rs) refl ((switch-rule rs x c there).no_gap.no_gap more) more;
}
  where
    before : (x : SwitchEntry) → x.id < 4294967296 → (o : Option Record) → at (place 10 (x.id - 1)) rs ≡ o → IsSome o → 1 < x.id → (y : SwitchEntry) × Contains (entries rs) y × (y.id + 1 ≡ x.id)
    before x few None e some more = absurd (false≢true some)
    before x few (Some r) e some more =
        let found = found_is rs (place 10 (x.id - 1)) r e in
        let is = placed r (x.id - 1) (omega arith) found.1 in
        let number = is.2 in
        (is.0, record-told switch_in rs r is.0 found.0 (ap switch_in is.1), omega arith)

-- the switch behind k others has the number k + 1
pub switch-number : (rs : List Record) (k : ℕ) (d : SwitchEntry) → IsCatalog rs → AreSmall rs → k < length (entries rs) → (get_or (entries rs) k d).id ≡ k + 1
switch-number rs k d c small inside = numbers-are (λ (x : SwitchEntry). x.id) (entries rs) k d (ascends rs c) (gapless rs c small) inside

pub switches_are : (rs : List Record) → switches rs ≡ map switch_of (entries rs)
switches_are [] = refl
switches_are (r ∷ rs) = step (switch_in r) (switches_are rs)
  where
    step : (o : Option SwitchEntry) → switches rs ≡ map switch_of (entries rs) → cons_option (option_map switch_of o) (switches rs) ≡ map switch_of (cons_option o (entries rs))
    step None same = same
    step (Some x) same = ap (λ (ys : List Switch). switch_of x ∷ ys) same

-- and is found under it
pub switches-found : (rs : List Record) → IsCatalog rs → AreSmall rs → AreFound rs (switches rs)
switches-found rs c small = subst (AreFound rs) (sym (switches_are rs)) entries-found
  where
    entries-found : AreFound rs (map switch_of (entries rs))
    entries-found k d inside =
        let e : SwitchEntry = record { id = 0; thread = d.thread; inc = d.inc; scn = d.scn; on = d.on; sequence = 0 } in
        let within : k < length (entries rs) = omega (arith, inside, length-map (entries rs) switch_of) in
        let x = get_or (entries rs) k e in
        let has = entry-record rs x (Contains-get_or (entries rs) k e within) in
        let number : suc k ≡ x.id = omega (arith, switch-number rs k e c small within) in
        ap (λ (n : ℕ). option_map switch_of (switch n rs)) number
        ∙ ap (λ (o : Option Record). option_map switch_of (option_and_then switch_in o)) (at-is rs (records.Switch x) c has)
        ∙ ap (λ (y : Switch). Some y) (sym (get_or-map switch_of (entries rs) k e d within))
