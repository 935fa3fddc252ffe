-- Objects that are made are recorded, one after another.
use Rattle.std.proofs.{Common.{◌≡◌, ◌∙◌, ◌++◌, ℕ, List, [], ◌∷◌, ap, refl, sym, subst, map}, lemmas.Simd.{map-map}}
use Rattle.rm_catalog.specs.declared.record.Edit.{Edit}
use Rattle.rm_catalog_typed.specs.{Changes.{EditsFollow}, Fitting.{FitsNewSet}}
use Rattle.rm_lang_statement.specs.declared.command.BackupForm.{BackupForm}
use Rattle.rm_machine.specs.MadeObjects.{CanRecord, Packed, alone, in_set}
use Rattle.rm_machine.specs.{MadeSets.{InSet, after_set, set_entry_for, set_object, set_of, told_member}, MadePieces.{line_under}}
use Rattle.rm_machine.specs.{Sound.{IsSound}, State.{ledger}, declared.{handed.Handed.{Handed}, state.State.{State}}}
use Rattle.rm_machine.proofs.Recording.{Stays, next-fits}
use Rattle.rm_report.specs.declared.line.Line.{Line}
use Rattle.rm_step_backup.specs.{Making.{FitsNext, after_entry, made_of, object_under}, Recorded.{HasRecorded}, declared.making.Made.{Made}}
use Rattle.rm_step_backup.proofs.UnderWay.{IsUnderWay, way-end, way-on, way-start}

module _ (s : State) (b : BackupForm) (tag : List ℕ) (xs : List Packed) (before : List Edit) (first : Handed) where
  -- from the state s on some are recorded, and these are left: the state is t
  pub record AreLeft (after : List Edit) (now : Handed) (t : State) (all : List Made) : Type 0 where
    pub rest : List Packed
    pub made : all ≡ map (made_of s b tag) rest
    pub way : IsUnderWay s b tag xs rest before after first now t

  pub left-start : (all : List Made) → all ≡ map (made_of s b tag) xs → IsSound s → CanRecord s b tag xs → AreLeft before first s all
  left-start all made sound can = record { rest = xs; made = made; way = way-start s b tag xs before first sound can }

  pub left-end : (t : State) (mid : List Edit) (y : Handed) (all : List Made) → all ≡ [] → AreLeft mid y t all → HasRecorded s b tag xs before mid first y t
  left-end t mid y all none left = end-by left.rest (sym none ∙ left.made) left.way
    where
      end-by : (rest : List Packed) → [] ≡ map (made_of s b tag) rest → IsUnderWay s b tag xs rest before mid first y t → HasRecorded s b tag xs before mid first y t
      end-by [] is way = way-end s b tag xs before first t [] mid y refl way
      end-by (x ∷ rest) is way = absurd (cc)

  module _ (t : State) (mid : List Edit) (y : Handed) where
    -- by the records at hand a set is the same
    set-here : (checkpoint : ℕ) (ms : List InSet) → Stays s t → set_of (ledger s) checkpoint ms ≡ set_of (ledger t) checkpoint ms
    set-here checkpoint ms stays = λ i. record { dbid = sym stays.dbid i; inc = sym stays.current i; checkpoint = checkpoint; members = map (λ m. m.member) ms }

    fits-here : (x : Packed) (rest : List Packed) → IsUnderWay s b tag xs (x ∷ rest) before mid first y t → FitsNext t (made_of s b tag x).entry
    fits-here (alone x) rest way = next-fits b tag t (alone x) rest way.can
    fits-here (in_set checkpoint ms) rest way =
        coe 1 0 (i. FitsNewSet t.catalog (set_entry_for t b tag (set-here checkpoint ms way.stays i))) (next-fits b tag t (in_set checkpoint ms) rest way.can)

    module _ (q : State) (after : List Edit) (z : Handed) where
      -- it is recorded as this
      abbrev IsAdded : Made → Type 0
      IsAdded m =
          (q ≡ after_entry t m.entry) × EditsFollow mid after t.catalog q.catalog × (z.lines ≡ y.lines ++ map (line_under (ledger t).base.next_id) m.told)
          × (z.objects ≡ y.objects ++ object_under (ledger t).base.next_id m ∷ []) × (z.removes ≡ y.removes)

      added : (x : Packed) (rest : List Packed) → IsUnderWay s b tag xs (x ∷ rest) before mid first y t → IsAdded (made_of s b tag x) → IsUnderWay s b tag xs rest before after first z q
      added (alone x) rest way is = way-on s b tag xs before first t (alone x) rest mid y way q after z is.0 is.1 is.2 is.3 is.4
      added (in_set checkpoint ms) rest way is =
          let same : set_of (ledger s) checkpoint ms ≡ set_of (ledger t) checkpoint ms = set-here checkpoint ms way.stays in
          way-on s b tag xs before first t (in_set checkpoint ms) rest mid y way q after z
          (is.0 ∙ (λ i. after_set t b tag (same i))) is.1 (is.2 ∙ ap (λ (ls : List Line). y.lines ++ ls) (map-map (line_under (ledger t).base.next_id) told_member ms))
          (is.3 ∙ (λ i. y.objects ++ set_object t (same i) ∷ [])) is.4

      added-by : (m : Made) (behind : List Made) (rest : List Packed) → m ∷ behind ≡ map (made_of s b tag) rest → IsUnderWay s b tag xs rest before mid first y t → IsAdded m → AreLeft after z q behind
      added-by m behind [] is way how = absurd (cc)
      added-by m behind (x ∷ rest) is way how =
          let same : m ≡ made_of s b tag x = cc in
          record { rest = rest; made = cc; way = added x rest way (subst IsAdded same how) }

      -- one more is recorded
      pub left-on : (m : Made) (behind all : List Made) → all ≡ m ∷ behind → AreLeft mid y t all → q ≡ after_entry t m.entry → EditsFollow mid after t.catalog q.catalog
          → z.lines ≡ y.lines ++ map (line_under (ledger t).base.next_id) m.told → z.objects ≡ y.objects ++ object_under (ledger t).base.next_id m ∷ [] → z.removes ≡ y.removes → AreLeft after z q behind
      left-on m behind all next left state follow lines objects removes = added-by m behind left.rest (sym next ∙ left.made) left.way (state, follow, lines, objects, removes)

    fits-by : (m : Made) (behind : List Made) (rest : List Packed) → m ∷ behind ≡ map (made_of s b tag) rest → IsUnderWay s b tag xs rest before mid first y t → FitsNext t m.entry
    fits-by m behind [] is way = absurd (cc)
    fits-by m behind (x ∷ rest) is way = let same : made_of s b tag x ≡ m = cc in subst (λ (n : Made). FitsNext t n.entry) same (fits-here x rest way)

    -- the next one fits
    pub left-fits : (m : Made) (behind all : List Made) → all ≡ m ∷ behind → AreLeft mid y t all → FitsNext t m.entry
    left-fits m behind all next left = fits-by m behind left.rest (sym next ∙ left.made) left.way
