-- A row that what is at hand tells of a block could stand in place: its version is that of a change below `now`, and it has 64 bytes.
use Rattle.std.proofs.Common.{◌≡◌, ◌<◌, ◌==◌, true, List, [], ◌∷◌, subst, sym, arith, nat_lt, All}
use Rattle.std.proofs.lemmas.{Bool.{and_parts, eqb-true, ltb-true}, List.Elements.{All-cons, All-head, All-nil, All-tail}}
use Rattle.rm_base.{specs.{Content.{zero_block}, declared.block.{BlockId.{BlockId}, Row.{Row}}}, proofs.Slots.{all-get}}
use Rattle.rm_evidence.{specs.{Known.{FitsTree, known_of}, declared.evidence.Evidence.{Evidence}}, proofs.Contents.{seen-content}}
use Rattle.rm_history.specs.{FirstGap.{IsTarget}, Known.{Seen, by_creation}, Tree.{owner}}
use Rattle.rm_catalog_typed.specs.LedgerFacts.{IsCreated}
use Rattle.rm_plan.specs.Blocks.{AreToldRows, IsToldRow}
use Rattle.rm_machine.specs.{Damage.{IsInPlace}, Sound.{IsPlacedRow, IsSound}, State.{current_of, ledger, now_of, on_path, tree, world}}
use Rattle.rm_machine.{specs.declared.state.State.{State}, proofs.{Numbers.{file-place, numbered}, Tracked.{on-path, some-is}}}
use Rattle.rm_machine.proofs.WritersRoom.{rows-many}

-- it is a block of a datafile that exists at `now`
abbrev pub IsTargetNow : State → BlockId → Type 0
IsTargetNow s x = IsTarget (world s) (current_of s) (now_of s) x.file x.block

-- a damaged one is
pub in-place-target : (s : State) (x : BlockId) → IsSound s → s.instance.is_open ≡ true → IsInPlace s x → IsTargetNow s x
in-place-target s x sound opened is =
    let known = some-is (on_path s x.file) is.here in
    let path = on-path s x.file known.0 known.1 in
    let n = numbered s x.file known.0 sound path.0 in
    record {
      there = sound.catalog.ledger.current;
      datafile = known.0;
      is = path.0;
      exists = path.1;
      block = let inside = is.block in omega (arith, inside, rows-many s x.file known.0 is.file sound opened n.is is.is);
    }

-- it could be a row in place
pub record CanStand (s : State) (r : Row) : Type 0 where
  pub placed : IsPlacedRow r
  pub below : r.version < now_of s

module _ (s : State) (e : Evidence) (sound : IsSound s) (fits : FitsTree (tree s) e) where
  pub told-stands : (x : BlockId) (r : Row) → IsTargetNow s x → IsToldRow (world s) (known_of e) (current_of s) (now_of s) x r → CanStand s r
  told-stands x r target told =
      let w = world s in
      let d = target.datafile in
      let both = and_parts (nat_lt d.creation (now_of s)) (owner w.tree (current_of s) d.creation == d.inc) target.exists in
      let own = eqb-true (owner w.tree (current_of s) d.creation) d.inc both.1 in
      let seen : Seen w (known_of e) x.file x.block d.inc d.creation zero_block = by_creation d target.is in
      let least = told.tells.determined.greatest.most d.creation zero_block (ltb-true d.creation (now_of s) both.0) (subst (λ m. Seen w (known_of e) x.file x.block m d.creation zero_block) (sym own) seen) in
      let place = file-place w x.file d target.is in
      let made = all-get (IsCreated (tree s)) (ledger s).files place.place d place.is sound.catalog.ledger.datafiles.each in
      record {
        placed = record {
          version = omega (arith, least, made.creation.0, (sound.catalog.ledger.incarnations.ranges d.inc made.there).0);
          content = seen-content (tree s) e fits w x.file x.block _ r.version r.content told.tells.determined.seen;
        };
        below = told.tells.determined.greatest.below;
      }

  pub told-stand : (xs : List BlockId) (rows : List Row) → All (IsTargetNow s) xs → AreToldRows (world s) (known_of e) (current_of s) (now_of s) xs rows → All (CanStand s) rows
  told-stand [] [] targets told = All-nil (CanStand s)
  told-stand [] (r ∷ rows) targets told = absurd told
  told-stand (x ∷ xs) [] targets told = absurd told
  told-stand (x ∷ xs) (r ∷ rows) targets told =
      All-cons (CanStand s) r rows (told-stands x r (All-head (IsTargetNow s) x xs targets) told.0) (told-stand xs rows (All-tail (IsTargetNow s) x xs targets) told.1)
