-- The datafiles of a catalog are numbered without a gap.
use Rattle.std.specs.{Prelude.{IsSome}, List.{filter_map}}
use Rattle.std.proofs.Common.{◌≡◌, ℕ, ◌+◌, ◌-◌, ◌<◌, List, length, get_or, Option, Some, None, refl, ap, sym, subst, ◌∙◌, arith, Contains, AllPairs, slice_get}
use Rattle.std.proofs.lemmas.{Bool.{false≢true}, Option.{slice_get-get_or, slice_get_within, get_or_from_slice_get}}
use Rattle.rm_catalog.specs.{Keys.{place, place_of, at, datafile, datafile_in}, Rules.{IsCatalog}}
use Rattle.rm_catalog.{specs.declared.record.{DatafileEntry.{DatafileEntry}, Record.{Record}}, proofs.Numbering.{rises_catalog}}
use Rattle.rm_catalog.proofs.{Told.{found_is}, Telling.{told-record, record-told, told-ascends}}
use Rattle.rm_catalog.proofs.Datafiles.{is-datafile, datafile-placed, datafile-rule, datafile-at, datafile-there}
use Rattle.rm_catalog.specs.declared.record.Record.TheVariants as records
use Rattle.rm_base.proofs.Gapless.{HasNoGap, numbers-are}

-- what the datafiles among the records say, in order
abbrev pub entries : List Record → List DatafileEntry
entries rs = filter_map datafile_in rs

grows : (r s : Record) (f g : DatafileEntry) → datafile_in r ≡ Some f → datafile_in s ≡ Some g → place_of r < place_of s → f.file < g.file
grows r s f g one two less =
    let first = ap place_of (is-datafile r f one) in
    let second = ap place_of (is-datafile s g two) in
    omega arith

pub entries-ascend : (rs : List Record) → IsCatalog rs → AllPairs (λ f g. f.file < g.file) (entries rs)
entries-ascend rs c = told-ascends datafile_in (λ (f : DatafileEntry). f.file) grows 0 rs (rises_catalog rs c)

pub entry-record : (rs : List Record) (f : DatafileEntry) → Contains (entries rs) f → Contains rs (records.Datafile f)
entry-record rs f has =
    let from = told-record datafile_in rs f has in
    let is : from.0 ≡ records.Datafile f = is-datafile from.0 f from.2 in
    subst (λ (r : Record). Contains rs r) is from.1

before : (rs : List Record) (f : DatafileEntry) → IsCatalog rs → Contains rs (records.Datafile f) → 1 < f.file → (g : DatafileEntry) × Contains (entries rs) g × (g.file + 1 ≡ f.file)
before rs f c has more = decide (at (place 3 (f.file - 1)) rs) refl ((datafile-rule rs f c has).no_gap.no_gap more)
  where
    decide : (o : Option Record) → at (place 3 (f.file - 1)) rs ≡ o → IsSome o → (g : DatafileEntry) × Contains (entries rs) g × (g.file + 1 ≡ f.file)
    decide None e some = absurd (false≢true some)
    decide (Some y) e some =
        let number = (datafile-rule rs f c has).number in
        let there = found_is rs (place 3 (f.file - 1)) y e in
        let p = datafile-placed y (f.file - 1) (omega arith) there.1 in
        let is = p.2 in
        (p.0, record-told datafile_in rs y p.0 there.0 (ap datafile_in p.1), omega arith)

gapless : (rs : List Record) → IsCatalog rs → HasNoGap DatafileEntry (λ f. f.file) (entries rs)
gapless rs c = record {
  low = λ f has. (datafile-rule rs f c (entry-record rs f has)).number.0;
  below = λ f has more. before rs f c (entry-record rs f has) more;
}

-- the datafile behind k others has the number k + 1
pub file-number : (rs : List Record) (k : ℕ) (d : DatafileEntry) → IsCatalog rs → k < length (entries rs) → (get_or (entries rs) k d).file ≡ k + 1
file-number rs k d c inside = numbers-are (λ (f : DatafileEntry). f.file) (entries rs) k d (entries-ascend rs c) (gapless rs c) inside

-- the entry behind k others is what the record of k + 1 says
pub entry-is : (rs : List Record) (k n : ℕ) → IsCatalog rs → n ≡ k + 1 → slice_get (entries rs) k ≡ datafile n rs
entry-is rs k n c next = decide (slice_get (entries rs) k) refl
  where
    none : (o : Option DatafileEntry) → slice_get (entries rs) k ≡ None → datafile n rs ≡ o → None ≡ o
    none None past e = refl
    none (Some f) past e =
        let there = datafile-there rs n f c e in
        let is = there.1 in
        let has = record-told datafile_in rs (records.Datafile f) f there.0 refl in
        let number = file-number rs has.0 f c has.1 in
        let same = ap (λ (g : DatafileEntry). g.file) has.2 in
        let place : has.0 ≡ k = omega arith in
        absurd (let both : Some (get_or (entries rs) has.0 f) ≡ None = sym (slice_get-get_or (entries rs) has.0 f has.1) ∙ ap (λ (j : ℕ). slice_get (entries rs) j) place ∙ past in cc)

    decide : (o : Option DatafileEntry) → slice_get (entries rs) k ≡ o → slice_get (entries rs) k ≡ datafile n rs
    decide None e = e ∙ none (datafile n rs) e refl
    decide (Some f) e =
        let inside = slice_get_within (entries rs) k f e in
        let here = get_or_from_slice_get (entries rs) k f f e in
        let number = file-number rs k f c inside in
        let same = ap (λ (g : DatafileEntry). g.file) here in
        let is : f.file ≡ n = omega arith in
        e ∙ sym (datafile-at rs f c (entry-record rs f (k, inside, here))) ∙ ap (λ (m : ℕ). datafile m rs) is
