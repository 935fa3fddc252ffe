-- The marks of a catalog have the numbers 1, 2, 3 and so on, and their moments do not fall.
use Rattle.std.specs.{Prelude.{IsSomeAnd, option_and_then}, List.{filter_map, Sorted.{IsNonDecreasingBy}}}
use Rattle.std.proofs.Common.{◌≡◌, ◌∙◌, ℕ, ◌+◌, ◌-◌, ◌<◌, ◌≤◌, List, length, get_or, map, Option, Some, None, refl, ap, sym, arith, Contains, AllPairs}
use Rattle.std.proofs.lemmas.List.{get_or_default, Elements.{All-contains, Contains-get_or}, Sorted.{IsNonDecreasingBy-from_all_adjacent}}
use Rattle.rm_catalog.specs.{Keys.{place, place_of, at, mark_in}, Facts.{MarkRule}, Rules.{IsCatalog}}
use Rattle.rm_catalog.{specs.declared.record.{MarkEntry.{MarkEntry}, Record.{Record}}, proofs.{Told.{found_is}, Telling.{record-told}}}
use Rattle.rm_catalog.proofs.Numbering.{obeys}
use Rattle.rm_catalog.specs.declared.record.Record.TheVariants as records
use Rattle.rm_base.proofs.Gapless.{HasNoGap, numbers-are}
use Rattle.rm_catalog_typed.specs.{Ledger.{numbered, mark_record}, Kinds.{AreSmall, IsSmall, marked_by}}
use Rattle.rm_catalog_typed.proofs.ByKind.{is-mark, made, numbered-by, told-in-order, told-is}

-- what the marks among the records say, in order
abbrev pub entries : List Record → List MarkEntry
entries rs = filter_map mark_in rs

pub entry-record : (rs : List Record) (m : MarkEntry) → Contains (entries rs) m → Contains rs (records.Mark m)
entry-record = made records.Mark mark_in 6 is-mark

pub mark-rule : (rs : List Record) (m : MarkEntry) → IsCatalog rs → Contains rs (records.Mark m) → MarkRule rs m
mark-rule rs m c has = (obeys rs (records.Mark m) c has).own

pub ascends : (rs : List Record) → IsCatalog rs → AllPairs (λ f g. f.id < g.id) (entries rs)
ascends = told-in-order records.Mark mark_in 6 is-mark (λ m. m.id) (λ m. refl)

-- the place of a mark tells its number where this is one
pub record Before (rs : List Record) (m : MarkEntry) : Type 0 where
  pub entry : MarkEntry
  pub has : Contains (entries rs) entry
  pub number : entry.id + 1 ≡ m.id
  pub moment : entry.moment ≤ m.moment

pub before : (rs : List Record) (m : MarkEntry) → IsCatalog rs → Contains rs (records.Mark m) → m.id ≤ 4294967295 → 1 < m.id → Before rs m
before rs m c has small more = decide (at (place 6 (m.id - 1)) rs) refl ((mark-rule rs m c has).before more)
  where
    found : (y : Record) (o : Option MarkEntry) → at (place 6 (m.id - 1)) rs ≡ Some y → mark_in y ≡ o → IsSomeAnd o (λ p. p.moment ≤ m.moment) → Before rs m
    found y None e is some = absurd some
    found y (Some p) e is some =
        let there = found_is rs (place 6 (m.id - 1)) y e in
        let here = ap place_of (told-is records.Mark mark_in 6 is-mark y p is) in
        record { entry = p; has = record-told mark_in rs y p there.0 is; number = omega arith; moment = some }

    decide : (o : Option Record) → at (place 6 (m.id - 1)) rs ≡ o → IsSomeAnd (option_and_then mark_in o) (λ p. p.moment ≤ m.moment) → Before rs m
    decide None e some = absurd some
    decide (Some y) e some = found y (mark_in y) e refl some

gapless : (rs : List Record) → IsCatalog rs → AreSmall rs → HasNoGap MarkEntry (λ m. m.id) (entries rs)
gapless rs c small = record {
  low = λ m has. (mark-rule rs m c (entry-record rs m has)).number;
  below = λ m has more. let there = entry-record rs m has in let b = before rs m c there (All-contains IsSmall rs (records.Mark m) small there) more in (b.entry, b.has, b.number);
}

-- the mark behind k others has the number k + 1
pub mark-number : (rs : List Record) (k : ℕ) (d : MarkEntry) → IsCatalog rs → AreSmall rs → k < length (entries rs) → (get_or (entries rs) k d).id ≡ k + 1
mark-number rs k d c small inside = numbers-are (λ (m : MarkEntry). m.id) (entries rs) k d (ascends rs c) (gapless rs c small) inside

pub marks-told : (rs : List Record) → IsCatalog rs → AreSmall rs → map records.Mark (entries rs) ≡ numbered mark_record 1 (map marked_by (entries rs))
marks-told rs c small = numbered-by records.Mark mark_record marked_by (λ m. m.id) (λ m. refl) 1 (entries rs) (λ k d lt. let is = mark-number rs k d c small lt in omega arith)

-- the moment of one is at most that of the next
next-moment : (rs : List Record) (k : ℕ) (d : MarkEntry) → IsCatalog rs → AreSmall rs → k + 1 < length (entries rs) → (get_or (entries rs) k d).moment ≤ (get_or (entries rs) (k + 1) d).moment
next-moment rs k d c small inside =
    let m = get_or (entries rs) (k + 1) d in
    let there = entry-record rs m (Contains-get_or (entries rs) (k + 1) d inside) in
    let number = mark-number rs (k + 1) d c small inside in
    let b = before rs m c there (All-contains IsSmall rs (records.Mark m) small there) (omega arith) in
    let is : get_or (entries rs) b.has.0 d ≡ b.entry = get_or_default (entries rs) b.has.0 d b.entry b.has.1 ∙ b.has.2 in
    let own = mark-number rs b.has.0 d c small b.has.1 in
    let same = ap (λ (x : MarkEntry). x.id) is in
    let index : b.has.0 ≡ k = omega arith in
    let here = ap (λ (x : MarkEntry). x.moment) (sym is ∙ ap (λ j. get_or (entries rs) j d) index) in
    omega arith

pub moments-rise : (rs : List Record) → IsCatalog rs → AreSmall rs → IsNonDecreasingBy (λ m. m.moment) (entries rs)
moments-rise rs c small = IsNonDecreasingBy-from_all_adjacent (λ m. m.moment) (entries rs) (λ k d inside. next-moment rs k d c small inside)
