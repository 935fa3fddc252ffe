-- How many objects a backup makes, and what they count as.
use Rattle.std.proofs.Common.{◌≡◌, ◌≤◌, ◌+◌, ◌*◌, ◌/◌, ◌%◌, ◌∙◌, ℕ, zero, suc, List, [], ◌∷◌, Option, Some, None, cond, is_none, min, ap, refl, sym, arith, drop, length, length-drop, length-take, map, sum_by, take}
use Rattle.std.proofs.lemmas.List.{length-map, Sums.{sum_by-cons, sum_by-take-drop}}
use Rattle.rm_history.specs.{World.{blocks_of}, declared.world.World.{World}}
use Rattle.rm_lang_statement.specs.declared.command.BackupForm.{BackupForm}
use Rattle.rm_machine.specs.{Backup.{cut, grouped, object_bytes, objects_of, piece_bytes, taken}, Marks.{set_bytes}, State.{world}}
use Rattle.rm_machine.{specs.declared.state.State.{State}, proofs.Groups.{cut-few, cut-many}}

-- What they count as

cut-bytes : (w : World) (most n : ℕ) (files : List ℕ) → 1 ≤ n → length files ≤ most
    → sum_by (set_bytes w) (cut most n files) ≡ 57 * length (cut most n files) + 37 * length files + 76 * sum_by (blocks_of w) files
cut-bytes w zero n [] some few = refl
cut-bytes w zero n (f ∷ files) some few = absurd (omega (arith, few))
cut-bytes w (suc most) n [] some few = refl
cut-bytes w (suc most) n (f ∷ files) some few =
    let fs : List ℕ = f ∷ files in
    let left = length-drop n fs in
    let front = length-take n fs in
    let both = sum_by-take-drop (blocks_of w) fs n in
    let rest = cut-bytes w most n (drop n fs) some (omega (arith, some, few, left)) in
    let first = sum_by-cons (set_bytes w) (take n fs) (cut most n (drop n fs)) in
    omega (arith, left, front, both, rest, first)

alone-bytes : (s : State) (files : List ℕ) → sum_by (sum_by (piece_bytes s)) (map (λ f. f ∷ []) files) ≡ 82 * length files + 76 * sum_by (blocks_of (world s)) files
alone-bytes s [] = refl
alone-bytes s (f ∷ files) =
    let one = sum_by-cons (piece_bytes s) f [] in
    omega (arith, one, sum_by-cons (sum_by (piece_bytes s)) (f ∷ []) (map (λ g. g ∷ []) files), sum_by-cons (blocks_of (world s)) f files, alone-bytes s files)

-- The objects of a backup

module _ (s : State) (b : BackupForm) where
  pub pieces-many : b.files_per_set ≡ None → length (objects_of s b) ≡ length (taken s b)
  pieces-many is = ap (λ (o : Option ℕ). length (grouped o (taken s b))) is ∙ length-map (taken s b) (λ f. f ∷ [])

  pub sets-many : (n : ℕ) → b.files_per_set ≡ Some n → 1 ≤ n → length (objects_of s b) ≡ length (taken s b) / n + min 1 (length (taken s b) % n)
  sets-many n is some = ap (λ (o : Option ℕ). length (grouped o (taken s b))) is ∙ cut-many n (taken s b) some

  abbrev bytes_by : Option ℕ → ℕ
  bytes_by o = sum_by (λ files. cond (is_none o) (sum_by (piece_bytes s) files) (set_bytes (world s) files)) (grouped o (taken s b))

  pub pieces-bytes : b.files_per_set ≡ None → sum_by (object_bytes s b) (objects_of s b) ≡ 82 * length (taken s b) + 76 * sum_by (blocks_of (world s)) (taken s b)
  pieces-bytes is = ap bytes_by is ∙ alone-bytes s (taken s b)

  pub sets-bytes : (n : ℕ) → b.files_per_set ≡ Some n → 1 ≤ n → sum_by (object_bytes s b) (objects_of s b) ≡ 57 * length (objects_of s b) + 37 * length (taken s b) + 76 * sum_by (blocks_of (world s)) (taken s b)
  sets-bytes n is some =
      let many = ap (λ (o : Option ℕ). length (grouped o (taken s b))) is in
      ap bytes_by is ∙ cut-bytes (world s) (length (taken s b)) n (taken s b) some (omega arith)
      ∙ sym (ap (λ k. 57 * k + 37 * length (taken s b) + 76 * sum_by (blocks_of (world s)) (taken s b)) many)

  -- no more than datafiles
  pub objects-few : length (objects_of s b) ≤ length (taken s b)
  objects-few = few-by b.files_per_set
    where
      few-by : (o : Option ℕ) → length (grouped o (taken s b)) ≤ length (taken s b)
      few-by None = let same = length-map (taken s b) (λ (f : ℕ). f ∷ []) in omega (arith, same)
      few-by (Some n) = cut-few (length (taken s b)) n (taken s b)
