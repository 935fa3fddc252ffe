-- What was read of datafiles, and the objects that are made of it.
use Rattle.std.proofs.Common.{◌≡◌, ◌≤◌, ◌∙◌, ◌++◌, ℕ, zero, suc, List, [], ◌∷◌, Option, Some, None, All, inl, inr, min, ap, refl, sym, subst, arith, drop, length, map, take, take_all}
use Rattle.std.proofs.lemmas.{Bool.{cases_lt}, List.{drop-map, drop_all, length-map, take-map}}
use Rattle.std.proofs.lemmas.{List.Elements.{All-cons, All-head, All-nil, All-tail}, Simd.{map-map}}
use Rattle.rm_base.{specs.declared.block.Row.{Row}, proofs.Filled.{filled-on}}
use Rattle.rm_catalog_typed.specs.Ledger.{Ledger}
use Rattle.rm_lang_statement.specs.declared.command.BackupForm.{BackupForm}
use Rattle.rm_machine.specs.{Backup.{cut, grouped}, MadeObjects.{CanRecord, IsRecordable, Packed, alone, in_set, packed, packed_by}}
use Rattle.rm_machine.specs.{MadePieces.{Copied, copied}, MadeSets.{InSet, in_sets}, State.{ledger}, declared.job.Job.{Job}}
use Rattle.rm_machine.{specs.declared.state.State.{State}, proofs.Groups.{cut-next}}
use Rattle.rm_step_backup.specs.Making.{CanMake, IsValid, copied_of, files_of, made_by, made_of, member_of, packed_of, reads_by}
use Rattle.rm_step_backup.specs.declared.{making.Made.{Made}, reading.{FileRead.{FileRead}, Read.{Read, TheVariants.{OfOne, OfSeveral}}}}

-- Groups

-- up to the end or the n-th item
take-most : {A : Type 0} (n : ℕ) (xs : List A) → take (min (length xs) n) xs ≡ take n xs
take-most n xs = elim (cases_lt (length xs) n) [
  | inl short ↦
      let all : min (length xs) n ≡ length xs = omega (arith, short) in
      ap (λ k. take k xs) all ∙ take_all (length xs) xs (omega arith) ∙ sym (take_all n xs (omega (arith, short)))
  | inr enough ↦ let first : min (length xs) n ≡ n = omega (arith, enough) in ap (λ k. take k xs) first
]

drop-most : {A : Type 0} (n : ℕ) (xs : List A) → drop (min (length xs) n) xs ≡ drop n xs
drop-most n xs = elim (cases_lt (length xs) n) [
  | inl short ↦
      let all : min (length xs) n ≡ length xs = omega (arith, short) in
      ap (λ k. drop k xs) all ∙ drop_all (length xs) xs (omega arith) ∙ sym (drop_all n xs (omega (arith, short)))
  | inr enough ↦ let first : min (length xs) n ≡ n = omega (arith, enough) in ap (λ k. drop k xs) first
]

-- another group is split off
pub groups-on : (n : ℕ) → 1 ≤ n → (left front behind : List FileRead) → 1 ≤ length left → (at : ℕ) → at ≡ min (length left) n → front ≡ take at left → behind ≡ drop at left → (reads reads' all : List Read)
    → reads ++ map OfSeveral (cut (length left) n left) ≡ all → reads' ≡ reads ++ OfSeveral front ∷ [] → reads' ++ map OfSeveral (cut (length behind) n behind) ≡ all
groups-on n some left front behind more at is first rest reads reads' all was next =
    let front_is : front ≡ take n left = first ∙ ap (λ k. take k left) is ∙ take-most n left in
    let behind_is : behind ≡ drop n left = rest ∙ ap (λ k. drop k left) is ∙ drop-most n left in
    filled-on reads reads' all (map OfSeveral (cut (length left) n left)) (map OfSeveral (cut (length behind) n behind)) (OfSeveral (take n left)) (OfSeveral front)
    (ap (map OfSeveral) (cut-next n left some more) ∙ (λ i. OfSeveral (take n left) ∷ map OfSeveral (cut (length (sym behind_is i)) n (sym behind_is i)))) (ap OfSeveral front_is) was next

cut-map : {A B : Type 0} (f : A → B) (most n : ℕ) (xs : List A) → map (map f) (cut most n xs) ≡ cut most n (map f xs)
cut-map f zero n xs = refl
cut-map f (suc most) n [] = refl
cut-map f (suc most) n (x ∷ xs) = λ i. sym (take-map f n (x ∷ xs)) i ∷ (cut-map f most n (drop n (x ∷ xs)) ∙ ap (cut most n) (sym (drop-map f n (x ∷ xs)))) i

-- Objects

module _ (l : Ledger) (b : BackupForm) (checkpoint : ℕ) where
  copies-are : (js : List Job) (rows : List (List Row)) → map (copied_of l b checkpoint) (files_of js rows) ≡ copied l b checkpoint js rows
  copies-are [] rows = refl
  copies-are (j ∷ js) [] = refl
  copies-are (j ∷ js) (rs ∷ rows) = ap (λ (xs : List Copied). copied_of l b checkpoint (record { job = j; rows = rs }) ∷ xs) (copies-are js rows)

  members-are : (js : List Job) (rows : List (List Row)) → map (member_of l b checkpoint) (files_of js rows) ≡ in_sets l b checkpoint js rows
  members-are [] rows = refl
  members-are (j ∷ js) [] = refl
  members-are (j ∷ js) (rs ∷ rows) = ap (λ (xs : List InSet). member_of l b checkpoint (record { job = j; rows = rs }) ∷ xs) (members-are js rows)

  grouped-are : (n : ℕ) (files : List FileRead) (ms : List InSet) → map (member_of l b checkpoint) files ≡ ms → map (map (member_of l b checkpoint)) (grouped (Some n) files) ≡ grouped (Some n) ms
  grouped-are n files ms is =
      let f : FileRead → InSet = member_of l b checkpoint in
      cut-map f (length files) n files ∙ (λ i. cut (sym (length-map files f) i) n (map f files)) ∙ ap (λ (xs : List InSet). cut (length xs) n xs) is

  -- they are those that the machine says
  packed-are : (o : Option ℕ) (js : List Job) (rows : List (List Row)) → map (packed_of l b checkpoint) (reads_by o (files_of js rows)) ≡ packed_by o l b checkpoint js rows
  packed-are None js rows =
      map-map (packed_of l b checkpoint) OfOne (files_of js rows) ∙ sym (map-map alone (copied_of l b checkpoint) (files_of js rows)) ∙ ap (map alone) (copies-are js rows)
  packed-are (Some n) js rows =
      let groups : List (List FileRead) = grouped (Some n) (files_of js rows) in
      map-map (packed_of l b checkpoint) OfSeveral groups ∙ sym (map-map (in_set checkpoint) (map (member_of l b checkpoint)) groups)
      ∙ ap (map (in_set checkpoint)) (grouped-are n (files_of js rows) (in_sets l b checkpoint js rows) (members-are js rows))

module _ (s : State) (b : BackupForm) (tag : List ℕ) (checkpoint : ℕ) where
  valid-of : (x : Packed) → IsRecordable s b tag x → IsValid s x
  valid-of (alone x) is = is.0
  valid-of (in_set c xs) is = is.0

  can-make : (reads : List Read) → All (IsRecordable s b tag) (map (packed_of (ledger s) b checkpoint) reads) → All (CanMake s b checkpoint) reads
  can-make [] each = All-nil (CanMake s b checkpoint)
  can-make (r ∷ reads) each =
      let x : Packed = packed_of (ledger s) b checkpoint r in
      let xs : List Packed = map (packed_of (ledger s) b checkpoint) reads in
      All-cons (CanMake s b checkpoint) r reads (valid-of x (All-head (IsRecordable s b tag) x xs each)) (can-make reads (All-tail (IsRecordable s b tag) x xs each))

  module _ (js : List Job) (rows : List (List Row)) (reads : List Read) (read : reads ≡ reads_by b.files_per_set (files_of js rows)) where
    are : map (packed_of (ledger s) b checkpoint) reads ≡ packed (ledger s) b checkpoint js rows
    are = ap (map (packed_of (ledger s) b checkpoint)) read ∙ packed-are (ledger s) b checkpoint b.files_per_set js rows

    -- what can be recorded can be made
    pub reads-can : CanRecord s b tag (packed (ledger s) b checkpoint js rows) → All (CanMake s b checkpoint) reads
    reads-can can = can-make reads (subst (All (IsRecordable s b tag)) (sym are) can.each)

    -- all are made
    pub all-made : (all : List Made) → all ≡ map (made_by s b tag checkpoint) reads → all ≡ map (made_of s b tag) (packed (ledger s) b checkpoint js rows)
    all-made all made = made ∙ sym (map-map (made_of s b tag) (packed_of (ledger s) b checkpoint) reads) ∙ ap (map (made_of s b tag)) are
