-- CATALOG: what is recorded fits, whatever stands there, and the state after it is sound.
use Rattle.std.specs.Prelude.{IfSome}
use Rattle.std.proofs.Common.{◌≡◌, ◌≢◌, ◌<◌, ◌≤◌, ◌+◌, ◌-◌, ◌∙◌, ◌==◌, ◌&&◌, inl, inr, nat_lt, cond, eq-eqb, ℕ, List, Option, Some, None, Bool, true, false, is_none, find, codes, max, refl, ap, sym, subst, arith, length}
use Rattle.std.proofs.lemmas.{Bool.{and_parts, cases_Bool}, List.{length-set, Elements.{All-contains}}}
use Rattle.rm_base.{specs.{Numbers.{last_scn}, Store.{Held}}, proofs.{Conditions.{unless}, Lists.{find_none}, Standing.{each-in}}}
use Rattle.rm_blocks.specs.File.{File, standing}
use Rattle.rm_catalog.specs.declared.record.{BaseEntry.{BaseEntry}, LogEntry.{LogEntry}, PieceEntry.{PieceEntry}, SetEntry.{SetEntry}}
use Rattle.rm_history.specs.{Tree.{IsThere, end_of, parent_of, reset_of}, declared.world.Datafile.{Datafile}}
use Rattle.rm_history.proofs.Highs.{high-above, high-bound}
use Rattle.rm_catalog_typed.specs.{Changes.{with_base, with_end_at}, Facts.{IsTypedCatalog}}
use Rattle.rm_catalog_typed.specs.{Fitting.{FitsBase, FitsLog, FitsPiece, IsObjectId, LacksId}, Ledger.{ledger_records}}
use Rattle.rm_catalog_typed.specs.{Switches.{is_enabled_in}, TypedCatalog.{Saved}}
use Rattle.rm_catalog_typed.proofs.{Fitted.{base_fits, end_fits, log_fits, many, piece_fits}, Trees.{Keeps, keeps_end}}
use Rattle.rm_catalog_typed.proofs.Enabled.{enabled-risen}
use Rattle.rm_piece.specs.Valid.{IsRow}
use Rattle.rm_redo.{specs.Online.{IsThread, has_log}, proofs.FurtherLogs.{log-further}}
use Rattle.rm_evidence.specs.Objects.{piece_entry}
use Rattle.rm_machine.specs.CatalogName.{Found, IsFound, Obeys, artefact_of, catalog_refusal, catalogued, found_log, found_piece, id_of, ids_up_to, inc_of, lacks_ids_behind, raised, top_of}
use Rattle.rm_machine.specs.{Machine.{IsValidArtefact}, Marks.{lacks_bytes, lacks_room}, Sound.{IsOnline, IsPlaced, IsPoint, IsSound}}
use Rattle.rm_machine.specs.{Saved.{spelling_of}, SwitchLogfile.{log_entry}, Upkeep.{is_unknown, log_at, piece_at, set_at, with_catalog}}
use Rattle.rm_machine.specs.{State.{counted, current_of, is_lost, ledger, now_of, online, redo_end, tree}, declared.state.State.{State}}
use Rattle.rm_machine.proofs.{Later.{sound-with}, Places.{counted-closed, counted-open}, Switching.{not-above}, Tracked.{tracked-later}}
use Rattle.rm_machine.proofs.Damaged.{damaged-later}

-- The end of an incarnation rises

module _ (s : State) (sound : IsSound s) (j end : ℕ) (there : IsThere (tree s) j) (up : end_of (tree s) j ≤ end) (last : end ≤ last_scn) where
  abbrev pub risen : State
  risen = with_catalog s (with_end_at s.catalog j end)

  keeps : Keeps (tree s) (tree risen)
  keeps = keeps_end (tree s) j end there up

  risen-fits : IsTypedCatalog risen.catalog
  risen-fits = end_fits s.catalog j end sound.catalog there up last

  -- what is in place lies up to the end, as before
  standing-risen : (k : ℕ) (d : Datafile) (x : File) → IsPlaced (tree s) k d (standing x (current_of s) (now_of s)) → IsPlaced (tree risen) k d (standing x (current_of s) (now_of risen))
  standing-risen k d x is = record {
    file = is.file;
    blocks = is.blocks;
    order = is.order;
    rows = is.rows;
    there = keeps.there (current_of s) is.there;
    checkpoint = omega (arith, keeps.end (current_of s) is.there, is.checkpoint);
    high = high-bound (now_of risen) (now_of risen) x.rows (omega arith) (λ r has. omega (arith, high-above (now_of s) x.rows r has, is.high, keeps.end (current_of s) is.there));
  }

  placed-risen : (k : ℕ) (d : Datafile) (x : File) → IsPlaced (tree s) k d (counted s x) → IsPlaced (tree risen) k d (counted risen x)
  placed-risen k d x is = elim (cases_Bool s.instance.is_open) [
    | inl opened ↦ subst (IsPlaced (tree risen) k d) (sym (counted-open risen x opened)) (standing-risen k d x (subst (IsPlaced (tree s) k d) (counted-open s x opened) is))
    | inr closed ↦
        let was = subst (IsPlaced (tree s) k d) (counted-closed s x closed) is in
        subst (IsPlaced (tree risen) k d) (sym (counted-closed risen x closed)) (record {
          file = was.file;
          blocks = was.blocks;
          order = was.order;
          rows = was.rows;
          there = keeps.there x.inc was.there;
          checkpoint = was.checkpoint;
          high = omega (arith, keeps.end x.inc was.there, was.high);
        })
  ]

  -- the online logs tell up to it
  online-risen : (t : ℕ) → IsThread s.instance.logs t → is_lost s.instance.logs t ≡ false → IsOnline (tree risen) (online risen t)
  online-risen t is found =
      let was = sound.logs.each t is found in
      let inc = s.instance.logs.inc in
      let here = sound.logs.there in
      let most = (risen-fits.ledger.incarnations.ranges inc (keeps.there inc here)).2 in
      record {
        valid = log-further (online s t) (online risen t) was.valid refl refl refl refl refl (keeps.end inc here) most (inl refl);
        begun = omega (arith, keeps.reset inc here, was.begun);
      }

  -- and are those of the same threads
  threads-risen : (t : ℕ) → 0 < t → t ≤ 4 → has_log s.instance.logs t ≡ is_enabled_in (ledger risen) s.instance.logs.inc (redo_end risen) t
  threads-risen t low high =
      sound.logs.threads t low high ∙ sym (enabled-risen (ledger s) sound.catalog.ledger (tree risen) keeps s.instance.logs.inc t sound.logs.there)

  point-risen : (at : ℕ) → IsPoint s at → IsPoint risen at
  point-risen at was =
      let i = current_of s in
      let is = sound.catalog.ledger.current in
      record {
        low = omega (arith, keeps.reset i is, was.low);
        high = omega (arith, keeps.end i is, was.high);
        stands = λ k d file exists. was.stands k d file (sym (ap (λ o. nat_lt d.creation at && (o == d.inc)) (keeps.owners i d.creation is)) ∙ exists);
      }

  pub sound-risen : IsSound risen
  sound-risen = record {
    catalog = risen-fits;
    dbid = sound.dbid;
    place = record { many = sound.place.many; each = λ k d x file is. placed-risen k d x (sound.place.each k d x file is) };
    logs = record { dbid = sound.logs.dbid; there = keeps.there s.instance.logs.inc sound.logs.there; four = sound.logs.four; threads = threads-risen; gone = sound.logs.gone; each = online-risen };
    damaged = damaged-later s risen sound.catalog keeps sound.damaged;
    tracker = tracked-later s risen sound.catalog keeps sound.tracker;
    in_open = λ opened. let was = sound.in_open opened in record { inc = was.inc; found = was.found; point = was.point };
    point = λ at is. point-risen at (sound.point at is);
  }

-- What was not refused

-- its id has no record, and there is room for one, and for the ids of a save behind it
pub record IsAccepted (s : State) (x : Found) : Type 0 where
  pub unknown : is_unknown s.catalog (id_of x) ≡ true
  pub records : length (ledger_records (ledger s)) + 1 ≤ 65536
  pub ids : (ledger s).base.next_id + ids_up_to s (id_of x) + 68 ≤ 4294967295

-- what is refused otherwise is known
not-known : {X : Type 0} (b l : Bool) (o : Option X) (x y : X) → cond b o (cond l (Some x) (Some y)) ≡ None → (b ≡ true) × (o ≡ None)
not-known true l o x y is = (refl, is)
not-known false true o x y is = absurd (cc)
not-known false false o x y is = absurd (cc)

pub accepted : (s : State) (name : List ℕ) (x : Found) → catalog_refusal s name x ≡ None → IsAccepted s x
accepted s name x is =
    let free = not-known (is_unknown s.catalog (id_of x)) (lacks_ids_behind s (id_of x)) _ _ _ is in
    let room = unless (lacks_room s 1) _ _ free.1 in
    let bytes = unless (lacks_bytes s (length (spelling_of (artefact_of x)))) _ _ room.1 in
    let ids = unless (lacks_ids_behind s (id_of x)) _ _ bytes.1 in
    record {
      unknown = free.0;
      records = not-above 65536 (length (ledger_records (ledger s)) + 1) room.0;
      ids = not-above 4294967295 ((ledger s).base.next_id + ids_up_to s (id_of x) + 68) ids.0;
    }

-- none of them has an id that is unknown
none-is : {X : Type 0} (o : Option X) → is_none o ≡ true → o ≡ None
none-is None is = refl
none-is (Some x) is = absurd (cc)

unknown-id : {X : Type 0} (id : X → ℕ) (n : ℕ) (xs : List X) → is_none (find (λ x. id x == n) xs) ≡ true → LacksId id n xs
unknown-id id n xs none = each-in (λ x. id x ≢ n) xs (λ x has same. find_none (λ y. id y == n) xs x (none-is (find (λ y. id y == n) xs) none) has (eq-eqb (id x) n same))

-- no log, no piece and no set has an id that is unknown
record IsFree (s : State) (n : ℕ) : Type 0 where
  logs : LacksId (λ (e : LogEntry). e.id) n (ledger s).logs
  pieces : LacksId (λ (p : PieceEntry). p.id) n (ledger s).pieces
  sets : LacksId (λ (e : SetEntry). e.id) n (ledger s).sets

free-id : (s : State) (n : ℕ) → is_unknown s.catalog n ≡ true → IsFree s n
free-id s n unknown =
    let all = and_parts (is_none (log_at s.catalog n) && is_none (piece_at s.catalog n)) (is_none (set_at s.catalog n)) unknown in
    let first = and_parts (is_none (log_at s.catalog n)) (is_none (piece_at s.catalog n)) all.0 in
    record {
      logs = unknown-id (λ (e : LogEntry). e.id) n (ledger s).logs first.0;
      pieces = unknown-id (λ (p : PieceEntry). p.id) n (ledger s).pieces first.1;
      sets = unknown-id (λ (e : SetEntry). e.id) n (ledger s).sets all.1;
    }

-- What fits

-- the base facts where no id up to its own is free, and the end of its incarnation
abbrev pub raised_base : State → Found → BaseEntry
raised_base s x = record (ledger s).base { next_id = (ledger s).base.next_id + ids_up_to s (id_of x) }

abbrev pub raised_end : State → Found → ℕ
raised_end s x = max (end_of (tree s) (inc_of x)) (top_of x)

abbrev pub FitsEntry : State → Found → Type 0
FitsEntry s (found_log id a) = FitsLog (raised s (found_log id a)) (log_entry id a)
FitsEntry s (found_piece copy id a) = FitsPiece (raised s (found_piece copy id a)) (piece_entry copy false (codes "CATALOGUED") (ledger s).base.moment id a)

-- one after another: the base facts, the end of an incarnation that is there, and the record
pub record FitsFound (s : State) (x : Found) : Type 0 where
  pub base : FitsBase s.catalog (raised_base s x)
  pub there : IsThere (tree s) (inc_of x)
  pub end : (end_of (tree s) (inc_of x) ≤ raised_end s x) × (raised_end s x ≤ last_scn)
  pub entry : FitsEntry s x

raised-there : (s : State) (x : Found) → Obeys s x → IsThere (raised s x).ledger.tree (inc_of x)
raised-there s (found_log id a) obeys = obeys.there
raised-there s (found_piece copy id a) obeys = obeys.0.there

-- a valid artefact tells of SCNs that there can be
top-last : (x : Found) → IsValidArtefact (artefact_of x) → top_of x ≤ last_scn
top-last (found_log id a) valid = valid.range.2
top-last (found_piece copy id a) valid =
    omega (arith, valid.high, high-bound a.checkpoint last_scn a.rows valid.checkpoint.1 (λ r has. (All-contains (IsRow a.blocks a.from) a.rows r valid.rows has).version.1))

module _ (s : State) (x : Found) where
  -- so many incarnations, and so many records
  raised-many : length (raised s x).ledger.tree ≡ length (tree s)
  raised-many = length-set (tree s) (inc_of x - 1) (record { parent = parent_of (tree s) (inc_of x); reset = reset_of (tree s) (inc_of x); end = raised_end s x })

  raised-records : length (ledger_records (raised s x).ledger) ≡ length (ledger_records (ledger s))
  raised-records = omega (arith, many (ledger s), many (raised s x).ledger, raised-many)

  module _ (sound : IsSound s) (none : s.catalog.saved ≡ None) (ok : IsAccepted s x) where
    base-raised : FitsBase s.catalog (raised_base s x)
    base-raised =
        let is = sound.catalog.ledger in
        let ids = ok.ids in
        record {
          facts = record { dbid = is.base.dbid; threads = is.base.threads; next_id = (omega (arith, is.base.next_id.0), omega (arith, ids)); moment = is.base.moment; policy = is.base.policy; parallelism = is.base.parallelism };
          current = is.current;
          threads = refl;
          next_id = omega arith;
          moment = omega arith;
        }

    id-raised : (1 ≤ id_of x) × (id_of x < 4294967295) → IsObjectId (raised s x) (id_of x)
    id-raised number = record {
      range = (number.0, omega arith);
      parts = subst (λ o. IfSome o (λ (site : Saved). LacksId (λ p. p.id) (id_of x) site.parts)) (sym none) tt;
    }

entry-fits : (s : State) (x : Found) → IsSound s → s.catalog.saved ≡ None → IsAccepted s x → (1 ≤ id_of x) × (id_of x < 4294967295) → Obeys s x → FitsEntry s x
entry-fits s (found_log id a) sound none ok number obeys =
    let x = found_log id a in
    let free = free-id s id ok.unknown in
    record {
      log = obeys;
      id = id-raised s x sound none ok number;
      pieces = free.pieces;
      sets = free.sets;
      room = inr (omega (arith, raised-records s x, ok.records));
    }
entry-fits s (found_piece copy id a) sound none ok number obeys =
    let x = found_piece copy id a in
    let free = free-id s id ok.unknown in
    record {
      piece = obeys.0;
      id = id-raised s x sound none ok number;
      logs = free.logs;
      sets = free.sets;
      room = inr (omega (arith, raised-records s x, ok.records));
    }

-- what stands there fits, where it is not refused
pub found-fits : (s : State) (held : Held) (name : List ℕ) (x : Found) → IsSound s → s.catalog.saved ≡ None → IsFound s held name x → catalog_refusal s name x ≡ None → FitsFound s x
found-fits s held name x sound none found is =
    let ok = accepted s name x is in
    let there = raised-there s x found.obeys in
    let here : IsThere (tree s) (inc_of x) = (there.0, omega (arith, there.1, raised-many s x)) in
    record {
      base = base-raised s x sound none ok;
      there = here;
      end = (omega arith, omega (arith, (sound.catalog.ledger.incarnations.ranges (inc_of x) here).2, top-last x found.valid));
      entry = entry-fits s x sound none ok found.number found.obeys;
    }

-- The state after it

module _ (s : State) (x : Found) (sound : IsSound s) (fits : FitsFound s x) where
  abbrev numbered : State
  numbered = with_catalog s (with_base s.catalog (raised_base s x))

  sound-numbered : IsSound numbered
  sound-numbered = sound-with s numbered.catalog (base_fits s.catalog (raised_base s x) sound.catalog fits.base) sound

  pub sound-raised : IsSound (with_catalog s (raised s x))
  sound-raised = sound-risen numbered sound-numbered (inc_of x) (raised_end s x) fits.there fits.end.0 fits.end.1

pub sound-catalogued : (s : State) (x : Found) → IsSound s → FitsFound s x → IsSound (with_catalog s (catalogued s x))
sound-catalogued s (found_log id a) sound fits =
    let x = found_log id a in
    let q : State = with_catalog s (raised s x) in
    let raised-is = sound-raised s x sound fits in
    sound-with q (catalogued s x) (log_fits q.catalog (log_entry id a) raised-is.catalog fits.entry) raised-is
sound-catalogued s (found_piece copy id a) sound fits =
    let x = found_piece copy id a in
    let q : State = with_catalog s (raised s x) in
    let raised-is = sound-raised s x sound fits in
    sound-with q (catalogued s x) (piece_fits q.catalog (piece_entry copy false (codes "CATALOGUED") (ledger s).base.moment id a) raised-is.catalog fits.entry) raised-is

-- no site is saved after it, and its ids are drawn
pub saved-catalogued : (s : State) (x : Found) → (catalogued s x).saved ≡ s.catalog.saved
saved-catalogued s (found_log id a) = refl
saved-catalogued s (found_piece copy id a) = refl

pub next-catalogued : (s : State) (x : Found) → (catalogued s x).ledger.base.next_id ≡ (ledger s).base.next_id + ids_up_to s (id_of x)
next-catalogued s (found_log id a) = refl
next-catalogued s (found_piece copy id a) = refl
