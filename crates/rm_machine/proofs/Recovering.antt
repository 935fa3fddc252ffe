-- A database that was recovered by what is at hand is sound.
use Rattle.std.specs.Option.{option_map}
use Rattle.std.proofs.Common.{◌≡◌, ◌<◌, ◌≤◌, ◌+◌, ◌∙◌, ◌==◌, ◌||◌, ◌⊎◌, nat_lt, inl, inr, ℕ, suc, List, Option, Some, None, Bool, true, false, cond, refl, sym, subst, arith, map, slice_get, Contains}
use Rattle.std.proofs.lemmas.{Bool.{and_parts, eqb-true, ltb-true, Decides.{nat_tests}}, List.Elements.{All-contains}}
use Rattle.std.proofs.lemmas.Option.{slice_get_within}
use Rattle.rm_base.{specs.{Content.{zero_block}, declared.{block.Row.{Row}, refusal.Refusal.TheVariants.{Rm06}}}, proofs.Lists.{map_to}}
use Rattle.rm_base.proofs.{Slots.{all-get}, Conditions.{unless}, Standing.{at-place, each-get}}
use Rattle.rm_blocks.specs.File.{File}
use Rattle.rm_lang_statement.specs.declared.command.Until.{Until}
use Rattle.rm_evidence.{specs.{Known.{FitsTree, known_of}, declared.evidence.Evidence.{Evidence}}, proofs.Contents.{seen-content}}
use Rattle.rm_history.specs.{Artefacts.{high_of}, Tree.{IsThere, owner, reset_of, end_of}, World.{exists}, Known.{Seen, by_creation}}
use Rattle.rm_history.{specs.declared.{world.Datafile.{Datafile}, tree.Incarnation.{Incarnation}}, proofs.Highs.{high-bound}}
use Rattle.rm_history.specs.Evidence as known
use Rattle.rm_catalog_typed.specs.LedgerFacts.{IsCreated}
use Rattle.rm_plan.specs.Plan.{IsFileTarget}
use Rattle.rm_apply.specs.Told.{AreFilesAt, IsTold}
use Rattle.rm_machine.specs.{Marks.{ids_refusal}, Recover.{recovered, recover_refusal, recover_target, target_refusal}, Until.{or_else}}
use Rattle.rm_machine.specs.{Recovery.{put_over, range_refusal}, Sound.{IsPlaced, IsPlacedRow, IsPoint, IsSound}}
use Rattle.rm_machine.{specs.{State.{ledger, tree, world, current_of, now_of}, declared.state.State.{State}}, proofs.Untils.{until-none}}
use Rattle.rm_machine.proofs.{Exchanging.{sound-exchanged}, Numbers.{blocks-at, file-at, file-place}}
use Rattle.rm_machine.proofs.Placing.{number, over-at, over-cases, over-length}

-- why it was not refused
pub record CanRecover (s : State) (at : ℕ) : Type 0 where
  pub closed : s.instance.is_open ≡ false
  pub low : reset_of (tree s) (current_of s) ≤ at
  pub high : at ≤ now_of s

within : (a low high : ℕ) → (nat_lt a low || nat_lt high a) ≡ false → (low ≤ a) × (a ≤ high)
within a low high is = (grind (arith, nat_tests), grind (arith, nat_tests))

first-none : {X : Type 0} (o p : Option X) → or_else o p ≡ None → o ≡ None
first-none None p is = refl
first-none (Some x) p is = absurd (cc)

range-by : (b : Bool) (low high at : ℕ) → option_map (λ (x : ℕ × ℕ). Rm06 at x.0 x.1) (cond b (Some (low, high)) None) ≡ None → b ≡ false
range-by true low high at is = absurd (cc)
range-by false low high at is = refl

-- a target that is not refused lies in the range of its incarnation
pub in-range : (ns : List Incarnation) (i at : ℕ) → range_refusal ns i at ≡ None → (reset_of ns i ≤ at) × (at ≤ end_of ns i)
in-range ns i at is = within at (reset_of ns i) (end_of ns i) (range-by (nat_lt at (reset_of ns i) || nat_lt (end_of ns i) at) (reset_of ns i) (end_of ns i) at is)

pub can-recover : (s : State) (until : Option Until) (at : ℕ) → recover_target s until ≡ Some at → recover_refusal s until ≡ None → CanRecover s at
can-recover s until at is none =
    let mode = unless s.instance.is_open _ _ none in
    let target : target_refusal s at ≡ None = until-none s (current_of s) until (target_refusal s) (ids_refusal s) at mode.1 is in
    let range = in-range (tree s) (current_of s) at (first-none (range_refusal (tree s) (current_of s) at) _ target) in
    record { closed = mode.0; low = range.0; high = range.1 }

-- what came to stand in place of datafile k + 1 exists at the target, and is told
pub record CameBack (s : State) (e : known.Evidence) (at k : ℕ) (d : Datafile) (x : File) : Type 0 where
  pub exists : exists (world s) (current_of s) at d ≡ true
  pub target : IsFileTarget (world s) (current_of s) at (1 + k)
  pub told : IsTold (world s) e (current_of s) at (1 + k) x

module _ (s : State) (e : Evidence) (at : ℕ) (files : List File) (sound : IsSound s) (fits : FitsTree (tree s) e) (can : CanRecover s at) (told : AreFilesAt (world s) (known_of e) (current_of s) at files) where
  abbrev over : List (Option File)
  over = put_over files s.instance.place

  -- a member stands at the place of its number
  member-back : (k : ℕ) (d : Datafile) (x : File) → slice_get (ledger s).files k ≡ Some d → Contains files x → 1 + k ≡ x.file → CameBack s (known_of e) at k d x
  member-back k d x file has number_is =
      let w = world s in
      let target : IsFileTarget w (current_of s) at (1 + k) = subst (IsFileTarget w (current_of s) at) (sym number_is) ((told.numbers.exact x.file).0 (map_to number files x has)) in
      let same : target.datafile ≡ d = (let one : Some target.datafile ≡ Some d = sym target.is ∙ file-at w k d file in cc) in
      record {
        exists = subst (λ (y : Datafile). exists w (current_of s) at y ≡ true) same target.exists;
        target = target;
        told = subst (λ f. IsTold w (known_of e) (current_of s) at f x) (sym number_is) (All-contains (λ (y : File). IsTold w (known_of e) (current_of s) at y.file y) files x told.each has);
      }

  pub stands : (k : ℕ) (d : Datafile) (x : File) → slice_get (ledger s).files k ≡ Some d → slice_get over k ≡ Some (Some x) → (slice_get s.instance.place k ≡ Some (Some x)) ⊎ CameBack s (known_of e) at k d x
  stands k d x file is = elim (over-cases files s.instance.place k x is) [
    | inr old ↦ inl old
    | inl new ↦
        let target = (told.numbers.exact x.file).0 (map_to number files x new.0) in
        inr (member-back k d x file new.0 (omega (arith, (file-place (world s) x.file target.datafile target.is).number, new.1)))
  ]

  -- each datafile of the target came back
  pub comes : (k : ℕ) (d : Datafile) → slice_get (ledger s).files k ≡ Some d → exists (world s) (current_of s) at d ≡ true → (x : File) × CameBack s (known_of e) at k d x × (slice_get over k ≡ Some (Some x))
  comes k d file here =
      let target : IsFileTarget (world s) (current_of s) at (1 + k) = record { there = sound.catalog.ledger.current; datafile = d; is = file-at (world s) k d file; exists = here } in
      let has : Contains (map number files) (suc k) = subst (Contains (map number files)) (let one : 1 + k ≡ suc k = omega arith in one) ((told.numbers.exact (1 + k)).1 target) in
      let inside = slice_get_within (ledger s).files k d file in
      let new = over-at files s.instance.place k told.numbers.ascends has (omega (arith, inside, sound.place.many)) in
      (new.0, member-back k d new.0 file new.1 (omega (arith, new.2)), new.3)

  module _ (k : ℕ) (d : Datafile) (x : File) (file : slice_get (ledger s).files k ≡ Some d) (back : CameBack s (known_of e) at k d x) where
    -- its versions are those of changes below the target
    version-below : (b : ℕ) (r : Row) → slice_get x.rows b ≡ Some r → r.version < at
    version-below b r row = (back.told.rows b r row).1.greatest.below

    version-above : (b : ℕ) (r : Row) → slice_get x.rows b ≡ Some r → 1 ≤ r.version
    version-above b r row =
        let w = world s in
        let both = and_parts (nat_lt d.creation at) (owner w.tree (current_of s) d.creation == d.inc) back.exists in
        let below = ltb-true d.creation at both.0 in
        let own = eqb-true (owner w.tree (current_of s) d.creation) d.inc both.1 in
        let seen : Seen w (known_of e) (1 + k) b d.inc d.creation zero_block = by_creation d (file-at w k d file) in
        let least = (back.told.rows b r row).1.greatest.most d.creation zero_block below (subst (λ m. Seen w (known_of e) (1 + k) b m d.creation zero_block) (sym own) seen) in
        let made = all-get (IsCreated (tree s)) (ledger s).files k d file sound.catalog.ledger.datafiles.each in
        omega (arith, least, made.creation.0, (sound.catalog.ledger.incarnations.ranges d.inc made.there).0)

    told-placed : IsPlaced (tree s) k d x
    told-placed =
        let first = (sound.catalog.ledger.incarnations.ranges (current_of s) sound.catalog.ledger.current).0 in
        record {
          file = omega (arith, back.told.file);
          blocks = back.told.blocks ∙ blocks-at (world s) k d file;
          order = λ b r row. (back.told.rows b r row).0;
          rows = each-get IsPlacedRow x.rows (λ b r row. record {
            version = version-above b r row;
            content = seen-content (tree s) e fits (world s) (1 + k) b _ r.version r.content (back.told.rows b r row).1.seen;
          });
          there = subst (IsThere (tree s)) (sym back.told.inc) sound.catalog.ledger.current;
          checkpoint = omega (arith, back.told.checkpoint, can.low, first);
          high = subst (λ j. high_of x.checkpoint x.rows ≤ end_of (tree s) j) (sym back.told.inc)
              (high-bound x.checkpoint (now_of s) x.rows (omega (arith, back.told.checkpoint, can.high)) (λ r has.
              let row = at-place x.rows r has in
              omega (arith, version-below row.0 r row.1, can.high)));
        }

  pub sound-recovered : IsSound (recovered s at files)
  sound-recovered = sound-exchanged s (Some at) over sound can.closed (over-length files s.instance.place)
      (λ k d x file is. elim (stands k d x file is) [
        | inl old ↦ inl old
        | inr new ↦ inr (told-placed k d x file new)
      ])
      (λ n point.
      let same : at ≡ n = (let one : Some at ≡ Some n = point in cc) in
      subst (IsPoint (recovered s at files)) same (record {
        low = can.low;
        high = can.high;
        stands = λ k d file here.
            let new = comes k d file here in
            record {
              file = new.0;
              is = new.2;
              inc = new.1.told.inc;
              checkpoint = new.1.told.checkpoint;
              below = each-get (λ r. r.version < at) new.0.rows (λ b r row. version-below k d new.0 file new.1 b r row);
            };
      }))
