-- On what a floor stands, and what lies below it.
use Rattle.std.specs.Option.{option_map_or}
use Rattle.std.proofs.Common.{◌≡◌, ◌<◌, ◌≤◌, ◌+◌, ◌⊎◌, ◌==◌, ◌&&◌, inl, inr, nat_lt, ℕ, true, ap, sym, arith, Contains}
use Rattle.std.proofs.lemmas.Bool.{and_parts, cases_lt, eqb-true, Decides.{nat_tests}}
use Rattle.rm_base.{specs.Numbers.{last_scn}, proofs.Lists.{filter_from, filter_to, find_cases, map_to}}
use Rattle.rm_history.{specs.{Tree.{IsTree, IsShared, owner, is_within}, World.{creation_of}}, proofs.Segments.{parted}}
use Rattle.rm_retain.specs.Chosen.{Retention, is_candidate, is_before_window, candidates, rank, wanted, chosen, IsChosen, floor}
use Rattle.rm_retain.specs.{Obsolete.{IsClip, of_current, of_other, ClipsTo}, declared.copies.Backup.{Backup}}

-- a chosen copy whose checkpoint is the floor
pub record StandsOn (r : Retention) (f : ℕ) : Type 0 where
  pub copy : Backup
  pub held : Contains r.copies copy
  pub candidate : is_candidate r.world.tree r.current r.policy r.start f copy ≡ true
  pub chosen : IsChosen r f copy.id
  pub checkpoint : copy.checkpoint ≡ floor r f

rank_passes : (m n : ℕ) → (m + 1 == n) ≡ true → nat_lt m n ≡ true
rank_passes m n is = grind (arith, nat_tests)

-- the floor is the datafile's creation, or stands on a chosen copy
pub floor_cases : (r : Retention) (f : ℕ) → (floor r f ≡ creation_of r.world f) ⊎ StandsOn r f
floor_cases r f = elim (find_cases (λ x. rank (candidates r f) x + 1 == wanted r.policy) (candidates r f)) [
  | inl none ↦ inl (ap (λ o. option_map_or (λ (x : Backup). x.checkpoint) o (creation_of r.world f)) none)
  | inr found ↦
      let x = found.item in
      let from = filter_from (is_candidate r.world.tree r.current r.policy r.start f) r.copies x found.held in
      inr (record {
        copy = x;
        held = from.0;
        candidate = from.1;
        chosen = map_to (λ (y : Backup). y.id) (chosen r f) x (filter_to (λ y. nat_lt (rank (candidates r f) y) (wanted r.policy)) (candidates r f) x found.held (rank_passes (rank (candidates r f) x) (wanted r.policy) found.passes));
        checkpoint = sym (ap (λ o. option_map_or (λ (y : Backup). y.checkpoint) o (creation_of r.world f)) found.is);
      })
]

-- what clips to n ends there, or its path has left the current one
pub clip_cases : (r : Retention) (inc high n c : ℕ) → IsClip r.world.tree r.current inc high c → c ≤ n → (high ≤ n) ⊎ ((s : ℕ) × IsShared r.world.tree inc r.current s × (s ≤ n))
clip_cases r inc high n _ (of_current same) most = inl most
clip_cases r inc high n _ (of_other s differ shared) most = elim (cases_lt n high) [
  | inl above ↦ inr (s, shared, omega (arith, most, above))
  | inr within ↦ inl within
]

-- so all that it tells of the current path lies below n
pub clip_low : (r : Retention) (inc high n s g : ℕ) → IsTree r.world.tree → s ≤ last_scn → ClipsTo r inc high n → g < high → g < s → owner r.world.tree inc g ≡ owner r.world.tree r.current g → g < n
clip_low r inc high n s g tree last clips low below same = elim (clip_cases r inc high n clips.clip clips.is clips.most) [
  | inl within ↦ omega (arith, within, low)
  | inr left ↦ elim (cases_lt g n) [
    | inl under ↦ under
    | inr from ↦ let most = left.2 in absurd (parted r.world.tree tree.parents inc r.current left.0 g left.1 (omega (arith, from, most)) (omega (arith, below, last)) same)
  ]
]

-- a candidate, by its parts
pub record Candidate (r : Retention) (f : ℕ) (x : Backup) : Type 0 where
  pub file : x.file ≡ f
  pub within : is_within r.world.tree x.inc r.current x.high ≡ true
  pub early : is_before_window r.policy r.start x ≡ true

pub candidate_parts : (r : Retention) (f : ℕ) (x : Backup) → is_candidate r.world.tree r.current r.policy r.start f x ≡ true → Candidate r f x
candidate_parts r f x is =
    let last = and_parts ((x.file == f) && is_within r.world.tree x.inc r.current x.high) (is_before_window r.policy r.start x) is in
    let first = and_parts (x.file == f) (is_within r.world.tree x.inc r.current x.high) last.0 in
    record { file = eqb-true x.file f first.0; within = first.1; early = last.1 }
