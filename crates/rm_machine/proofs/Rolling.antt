-- BACKUP INCREMENTAL FROM SCN: what is known of one that was not refused, its increment, and the database after it.
use Rattle.std.specs.Option.{option_map_or}
use Rattle.std.proofs.Common.{◌≡◌, ◌<◌, ◌≤◌, ◌+◌, ◌-◌, ◌∙◌, ◌||◌, ◌==◌, ℕ, List, [], Option, Some, None, true, nat_lt, refl, ap, sym, subst, arith, length, get_or, slice_get, All, AllPairs}
use Rattle.std.proofs.lemmas.{Bool.{and_parts, ltb-false, ltb-true, or_parts}, List.{length-map}}
use Rattle.std.proofs.lemmas.{List.Elements.{All-map, All-weaker, Contains-get_or}, Option.{slice_get-get_or}}
use Rattle.rm_base.specs.declared.{block.Row.{Row}, refusal.{Limit.TheVariants.{Bytes, ObjectIds}, Refusal.TheVariants.{Rm06, Rm09, Rm11}}}
use Rattle.rm_base.proofs.{Conditions.{only-where, unless}, Slots.{get-index}}
use Rattle.rm_blocks.specs.File.{File, standing}
use Rattle.rm_evidence.proofs.Fitting.{ascends}
use Rattle.rm_history.{specs.Tree.{owner, reset_of}, proofs.Highs.{high-above}}
use Rattle.rm_catalog_typed.{specs.Fitting.{FitsBase}, proofs.Fitted.{base_fits}}
use Rattle.rm_piece.specs.{Sets.{IsBeforeMember, IsMember, IsSet}, Valid.{IsBefore}, declared.set.SetFile.{SetFile}}
use Rattle.rm_machine.specs.{Backup.{lost_taken, rows_in}, BackupOutcome.{begun}, BackupRefusal.{damage_refusal}}
use Rattle.rm_machine.specs.Marks.{lacks_bytes, lacks_ids, set_bytes}
use Rattle.rm_machine.specs.Roll.{after_roll, increment, of_all, roll_member, roll_refusal, roll_room, rolled_files, with_next_id}
use Rattle.rm_machine.specs.{Sound.{IsPlaced, IsSound}, State.{current_of, ledger, now_of, tree, world}, declared.state.State.{State}}
use Rattle.rm_machine.proofs.{BackingUp.{sound-begun}, BackupAccepted.{unless-some}, Backups.{IsTaken, taken-all}}
use Rattle.rm_machine.proofs.{Groups.{mapped-pairs, mapped-sum}, Later.{sound-with}, MembersRead.{member-is}}
use Rattle.rm_machine.proofs.{PiecesRead.{AreRead, BeginsBelow, IsCheckpoint, IsFound}, Places.{counted-open}}
use Rattle.rm_machine.proofs.TakenFiles.{taken-blocks, taken-few, taken-rise}

-- it was not refused
pub record CanRoll (s : State) (from : ℕ) : Type 0 where
  pub opened : s.instance.is_open ≡ true
  pub low : reset_of (tree s) 1 ≤ from
  pub high : from ≤ now_of s
  pub taken : All (IsTaken s) (rolled_files s)
  pub ids : (ledger s).base.next_id + 1 + 68 ≤ 4294967295
  pub clean : damage_refusal s of_all ≡ None

pub can-roll : (s : State) (from : ℕ) → roll_refusal s from ≡ None → CanRoll s from
can-roll s from is =
    let mode = only-where s.instance.is_open _ _ is in
    let within = unless (nat_lt from (reset_of (tree s) 1) || nat_lt (now_of s) from) (Rm06 from (reset_of (tree s) 1) (now_of s)) _ mode.1 in
    let bounds = or_parts (nat_lt from (reset_of (tree s) 1)) (nat_lt (now_of s) from) within.0 in
    let found = unless-some (λ f. Rm09 f) (lost_taken s of_all) (roll_room s) within.1 in
    let bytes = unless (lacks_bytes s (set_bytes (world s) (rolled_files s))) (Rm11 Bytes) _ found.1 in
    let numbers = unless (lacks_ids s 1) (Rm11 ObjectIds) _ bytes.1 in
    record {
      opened = mode.0;
      low = ltb-false from (reset_of (tree s) 1) bounds.0;
      high = ltb-false (now_of s) from bounds.1;
      taken = taken-all s of_all found.0;
      ids = ltb-false 4294967295 ((ledger s).base.next_id + 1 + 68) numbers.0;
      clean = numbers.1;
    }

-- What stands in place of a datafile of an open database

module _ (s : State) (f : ℕ) (sound : IsSound s) (opened : s.instance.is_open ≡ true) (is : IsTaken s f) where
  abbrev x : File
  x = is.file

  pub rows-placed : rows_in s f ≡ x.rows
  rows-placed = ap (λ (o : Option File). option_map_or (λ (y : File). y.rows) o []) is.stands

  pub place : IsPlaced (tree s) (f - 1) is.datafile (standing x (current_of s) (now_of s))
  place =
      let held = get-index s.instance.place (f - 1) x is.stands in
      subst (IsPlaced (tree s) (f - 1) is.datafile) (counted-open s x opened) (sound.place.each (f - 1) is.datafile x is.is held)

  pub rows-many : length (rows_in s f) ≡ is.datafile.blocks
  rows-many = ap (λ (rows : List Row). length rows) rows-placed ∙ place.blocks

  pub block-at : (k : ℕ) (r : Row) → slice_get (rows_in s f) k ≡ Some r → r.block ≡ k
  block-at k r got = place.order k r (subst (λ (rows : List Row). slice_get rows k ≡ Some r) rows-placed got)

  -- its number
  pub file-number : x.file ≡ f
  file-number = let number = place.file in omega (arith, number, is.some)

  pub found : All (IsFound s) x.rows
  found k d inside =
      let above = high-above (now_of s) x.rows (get_or x.rows k d) (Contains-get_or x.rows k d inside) in
      record { row = place.rows k d inside; below = omega (arith, above, place.high) }

  -- it could have been read
  abbrev pub place-read : AreRead s f (rows_in s f)
  place-read = record {
    some = is.some;
    datafile = is.datafile;
    is = is.is;
    here = is.here;
    ascend = subst (AllPairs IsBefore) (sym rows-placed) (ascends x.rows place.order);
    inside = λ k d inside. omega (arith, block-at k (get_or (rows_in s f) k d) (slice_get-get_or (rows_in s f) k d inside), inside, rows-many);
    each = subst (All (IsFound s)) (sym rows-placed) found;
  }

  -- it was created below `now`
  pub created-below : is.datafile.creation < now_of s
  created-below = ltb-true is.datafile.creation (now_of s) (and_parts (nat_lt is.datafile.creation (now_of s)) (owner (tree s) (current_of s) is.datafile.creation == is.datafile.inc) is.here).0

-- The increment

module _ (s : State) (from : ℕ) (sound : IsSound s) (can : CanRoll s from) where
  at : IsCheckpoint s (now_of s)
  at =
      let range = sound.catalog.ledger.incarnations.ranges (current_of s) sound.catalog.ledger.current in
      record { some = omega (arith, range.0, range.1); most = omega arith }

  begins : BeginsBelow (now_of s) (Some from)
  begins =
      let rules = sound.catalog.ledger.incarnations in
      let first = rules.ranges 1 (omega arith, rules.some) in
      let low = can.low in
      (omega (arith, first.0, low), can.high)

  member-valid : (f : ℕ) → IsTaken s f → IsMember (increment s from) (roll_member s from f)
  member-valid f is =
      member-is s of_all f (now_of s) (rows_in s f) sound (place-read s f sound can.opened is) at (created-below s f sound can.opened is) (increment s from).members (Some from) begins
      (λ low. rows-many s f sound can.opened is)

  valid : IsSet (increment s from)
  valid =
      let there = sound.catalog.ledger.current in
      let range = (sound.catalog.ledger.incarnations.ranges (current_of s) there).2 in
      let files = rolled_files s in
      record {
        dbid = sound.dbid;
        inc = omega (arith, there.1, sound.catalog.ledger.incarnations.few);
        checkpoint = omega (arith, range);
        few = omega (arith, length-map files (roll_member s from), taken-few s of_all sound);
        ascend = mapped-pairs IsBeforeMember (roll_member s from) files (taken-rise s of_all);
        members = All-map (IsMember (increment s from)) (roll_member s from) files (All-weaker (IsTaken s) (λ f. IsMember (increment s from) (roll_member s from f)) member-valid files can.taken);
        blocks = subst (λ n. n ≤ 131072) (sym (mapped-sum (λ (m : SetFile). m.piece.blocks) (roll_member s from) files)) (taken-blocks s of_all sound);
      }

-- it is a valid set
pub increment-valid : (s : State) (from : ℕ) → IsSound s → roll_refusal s from ≡ None → IsSet (increment s from)
increment-valid s from sound none = valid s from sound (can-roll s from none)

-- The database after it

-- its base facts fit
pub next-fits : (s : State) → IsSound s → (ledger s).base.next_id + 1 ≤ 4294967295 → FitsBase s.catalog (record (ledger s).base { next_id = (ledger s).base.next_id + 1 })
next-fits s sound most =
    let is = sound.catalog.ledger in
    record {
      facts = record { dbid = is.base.dbid; threads = is.base.threads; next_id = (omega arith, most); moment = is.base.moment; policy = is.base.policy; parallelism = is.base.parallelism };
      current = is.current;
      threads = refl;
      next_id = omega arith;
      moment = omega arith;
    }

-- and it is sound
pub begun-all : (s : State) → IsSound s → IsSound (begun s of_all)
begun-all s sound = sound-begun s of_all (omega (arith, sound.catalog.ledger.few)) sound

pub sound-rolled : (s : State) → IsSound s → (ledger s).base.next_id + 1 ≤ 4294967295 → IsSound (after_roll s)
sound-rolled s sound most =
    sound-with (begun s of_all) (with_next_id s.catalog)
    (base_fits s.catalog (record (ledger s).base { next_id = (ledger s).base.next_id + 1 }) sound.catalog (next-fits s sound most)) (begun-all s sound)
