-- CREATE DATAFILE leads on: one SCN further, a datafile is added.
use Rattle.std.specs.Option.{option_and_then, option_map_or}
use Rattle.std.proofs.Common.{◌≡◌, ◌≢◌, ◌<◌, ◌≤◌, ◌+◌, ◌-◌, ◌∙◌, ◌++◌, ◌⊎◌, ◌^◌, nat_le, inl, inr, ℕ, zero, suc, List, [], ◌∷◌, Option, Some, None, IsSome, is_some, Bool, true, false, cond, refl, ap, sym, subst, arith, length, length-append, All, Contains, slice_get, slice_index_or}
use Rattle.std.proofs.lemmas.{Bool.{and_parts, cases_eq, cases_lt, leb-true, ne_eqb}, List.{length-replicate}}
use Rattle.std.proofs.lemmas.List.Elements.{All-contains, All-contains_itself, All-nil, All-weaker}
use Rattle.std.proofs.lemmas.Option.{slice_get_past, slice_get_within}
use Rattle.rm_base.specs.{Created.{created_row}, Store.{Held}, declared.block.{Change.{Change}, Row.{Row}}}
use Rattle.rm_base.proofs.{Members.{first-or-rest, none-in, slice_get-front}, Slots.{get-index, get-push, index-get}}
use Rattle.rm_blocks.{specs.File.{File, created, created_rows, standing}, proofs.{Created.{created-all}, Rows.{in_order-created, length-created}}}
use Rattle.rm_lang_statement.specs.{IsCommand.{is_command}, declared.command.Command.TheVariants.{CreateDatafile}}
use Rattle.rm_history.specs.{State.{state}, Tree.{IsThere, reset_of}, World.{blocks_of, creation_of, exists, file_of, with_file}}
use Rattle.rm_history.specs.declared.{tree.Incarnation.{Incarnation}, world.{Datafile.{Datafile}, World.{World}}}
use Rattle.rm_history.proofs.{Below.{state-untouched}, Highs.{high-bound}, Histories.{IsHistory-with_file}}
use Rattle.rm_history.proofs.Worlds.{BaseAgrees-with_file, Level1Agrees-with_file, file-there, file_of-kept, state-kept}
use Rattle.rm_track.specs.{Bitmaps.{Bitmap, Tracked, fresh, tracked_at, with_file as with_tracked}, Told.{Tell}}
use Rattle.rm_track.proofs.{Places.{found-beside, found-new}, Telling.{new-file-tells}}
use Rattle.rm_catalog_typed.{specs.{Fitting.{FitsFile}, Worlds.{database_of}}, proofs.Fitted.{file_fits}}
use Rattle.rm_machine.specs.{CreateDatafile.{with_datafile}, Damage.{has_block}, Effect.{Made}}
use Rattle.rm_machine.specs.{Machine.{HistoryFits, IsBorneOut, RowsAre, SoundRowsAre}, Marks.{one_further}}
use Rattle.rm_machine.specs.{Sound.{IsPlaced, IsPlacedRow, IsSound}, Tracked.{AreTracked, IsTracked, tracks}}
use Rattle.rm_machine.{specs.{State.{world, now_of, on_path, placed}, declared.state.State.{State}}, proofs.Damaged.{damaged-kept}}
use Rattle.rm_machine.proofs.{Kept.{GrowsTo, kept-on, stand-same}, Further.{catalog-further, keeps-further, sound-further}}
use Rattle.rm_machine.proofs.{FirstTold.{lie-below}, Places.{counted-open, placed-is}, AddingDatafile.{HasRoom, has-room}}
use Rattle.rm_machine.proofs.AddingDatafile as shared
use Rattle.rm_machine_laws.proofs.{DamagedRows.{but-damaged, sound-agrees}, Further.{fits-further, rows-further, same-further}}
use Rattle.rm_machine_laws.proofs.{Grown.{SameHistory, true-on}, Leading.{LeadsOnBy, StaysBy}, Quiet.{quiet-on, quiet-stays}}

-- A new datafile

get-last : (xs : List Datafile) (y : Datafile) → slice_get (xs ++ y ∷ []) (length xs) ≡ Some y
get-last [] y = refl
get-last (x ∷ xs) y = get-last xs y

-- it has the next number
file_of-new : (w : World) (new : Datafile) → file_of (with_file w new) (length w.files + 1) ≡ Some new
file_of-new w new =
    let back : length w.files + 1 - 1 ≡ length w.files = omega arith in
    ap (λ b. cond b None (slice_get (w.files ++ new ∷ []) (length w.files + 1 - 1))) (ne_eqb (length w.files + 1) 0 (λ e. omega (arith, e)))
    ∙ ap (slice_get (w.files ++ new ∷ [])) back ∙ get-last w.files new

-- and of each other number the same datafile or none
file_of-past : (w : World) (f : ℕ) → length w.files < f → file_of w f ≡ None
file_of-past w f past = ap (λ b. cond b None (slice_get w.files (f - 1))) (ne_eqb f 0 (λ e. omega (arith, e, past))) ∙ slice_get_past w.files (f - 1) (omega (arith, past))

file_of-other : (w : World) (new : Datafile) (f : ℕ) → f ≢ length w.files + 1 → file_of (with_file w new) f ≡ file_of w f
file_of-other w new f other = elim (cases_lt (length w.files) f) [
  | inl past ↦ file_of-past (with_file w new) f (omega (arith, past, other, length-append w.files (new ∷ []))) ∙ sym (file_of-past w f past)
  | inr inside ↦ file_of-kept w new f inside
]

-- a datafile that is there has no higher number
file-inside : (w : World) (f : ℕ) (d : Datafile) → file_of w f ≡ Some d → f ≤ length w.files
file-inside w f d is =
    let there = file-there w f d is in
    omega (arith, there.0, slice_get_within w.files (f - 1) d there.1)

-- what stands in place after one more was put there
placed-push : (place : List (Option File)) (new : Option File) (k : ℕ) (x : File) → slice_index_or (place ++ new ∷ []) k None ≡ Some x → (slice_index_or place k None ≡ Some x) ⊎ (new ≡ Some x)
placed-push place new k x is = elim (get-push place new (Some x) k (get-index (place ++ new ∷ []) k x is)) [
  | inl last ↦ inr last.1
  | inr old ↦ inl (index-get place k x old)
]

placed-pushed : (place : List (Option File)) (new : Option File) (k : ℕ) (x : File) → slice_index_or place k None ≡ Some x → slice_index_or (place ++ new ∷ []) k None ≡ Some x
placed-pushed [] new k x is = absurd (cc)
placed-pushed (o ∷ place) new zero x is = is
placed-pushed (o ∷ place) new (suc k) x is = placed-pushed place new k x is

module _ (s : State) (blocks : ℕ) (sound : IsSound s) (a : HasRoom s blocks) (some : 1 ≤ blocks) where
  abbrev i : ℕ
  i = shared.i s blocks sound a some

  abbrev now : ℕ
  now = shared.now s blocks sound a some

  abbrev p : State
  p = shared.p s blocks sound a some

  abbrev q : State
  q = shared.q s blocks sound a some

  abbrev tree : List Incarnation
  tree = shared.tree s blocks sound a some

  abbrev files : List Datafile
  files = s.catalog.ledger.files

  abbrev d : Datafile
  d = shared.d s blocks sound a some

  abbrev file : File
  file = created (length files + 1) i now blocks

  there : IsThere s.catalog.ledger.tree i
  there = shared.there s blocks sound a some

  end : now_of p ≡ now + 1
  end = shared.end s blocks sound a some

  begun : (1 ≤ now) × (reset_of tree i ≤ now)
  begun = shared.begun s blocks sound a some

  datafile-fits : FitsFile (one_further s) d
  datafile-fits = shared.datafile-fits s blocks sound a some

  -- What is in place

  place-new : IsPlaced tree (length files) d (standing file i (now_of p))
  place-new =
      record {
        file = refl;
        blocks = length-created now blocks;
        order = in_order-created now blocks;
        rows = created-all IsPlacedRow now blocks (λ b. record { version = begun.0; content = refl });
        there = (keeps-further s sound a.on).there i there;
        checkpoint = omega (arith, end);
        high = high-bound (now_of p) (now_of p) (created_rows now blocks) (omega arith)
            (λ r has. All-contains (λ (r : Row). r.version < now_of p) (created_rows now blocks) r (created-all (λ r. r.version < now_of p) now blocks (λ b. omega (arith, end))) has);
      }

  place-after : (k : ℕ) (e : Datafile) (x : File) → slice_get q.catalog.ledger.files k ≡ Some e → slice_get q.instance.place k ≡ Some (Some x) → IsPlaced tree k e (standing x i (now_of p))
  place-after k e x at held =
      elim (get-push files d e k at) [
        | inl new ↦ elim (get-push s.instance.place (Some file) (Some x) k held) [
          | inl put ↦
              let same : file ≡ x = (let f : Some file ≡ Some x = put.1 in cc) in
              subst (λ m. IsPlaced tree m e (standing x i (now_of p))) (sym new.0) (subst (λ g. IsPlaced tree (length files) g (standing x i (now_of p))) new.1 (subst (λ y. IsPlaced tree (length files) d (standing y i (now_of p))) same place-new))
          | inr old ↦ absurd (let inside = slice_get_within s.instance.place k (Some x) old in let is = new.0 in omega (arith, is, inside, sound.place.many))
        ]
        | inr old ↦ elim (get-push s.instance.place (Some file) (Some x) k held) [
          | inl put ↦ absurd (let inside = slice_get_within files k e old in let is = put.0 in omega (arith, is, inside, sound.place.many))
          | inr kept ↦ subst (IsPlaced tree k e) (counted-open p x a.on.opened) ((sound-further s sound a.on).place.each k e x old kept)
        ]
      ]

  -- What is tracked

  abbrev ts : List Tracked
  ts = s.instance.tracker

  abbrev new : Tracked
  new = fresh (length files + 1) blocks (now + 1)

  abbrev tracked : Bool
  tracked = tracks s.instance.is_open s.catalog.ledger

  creation-new : creation_of (world q) (length files + 1) ≡ now
  creation-new = ap (λ o. option_map_or (λ (e : Datafile). e.creation) o 0) (file_of-new (world p) d)

  tracked-new : IsTracked q (length files + 1) new
  tracked-new = record {
    blocks = length-replicate blocks false ∙ sym (ap (λ o. option_map_or (λ (e : Datafile). e.blocks) o 0) (file_of-new (world p) d));
    ended = All-nil _;
    begun = omega (arith, end);
    kept = λ low has. elim (first-or-rest (now + 1) [] low has) [
      | inl same ↦ record { reset = omega (arith, begun.1, same); created = omega (arith, creation-new, same) }
      | inr none ↦ absurd (none-in low none)
    ];
  }

  -- the bitmaps of another number are of the same datafile
  tracked-old : (f : ℕ) (t : Tracked) → f ≢ length files + 1 → IsTracked p f t → IsTracked q f t
  tracked-old f t other is =
      let same : file_of (world p) f ≡ file_of (world q) f = sym (file_of-other (world p) d f other) in
      let many : blocks_of (world p) f ≡ blocks_of (world q) f = ap (λ o. option_map_or (λ (e : Datafile). e.blocks) o 0) same in
      let creation : creation_of (world p) f ≡ creation_of (world q) f = ap (λ o. option_map_or (λ (e : Datafile). e.creation) o 0) same in
      record {
        blocks = is.blocks ∙ many;
        ended = subst (λ n. All (λ (x : Bitmap). length x.marks ≡ n) t.ended) many is.ended;
        begun = is.begun;
        kept = λ low has. let start = is.kept low has in record { reset = start.reset; created = omega (arith, start.created, creation) };
      }

  each-tracked : AreTracked p → (b : Bool) → tracked ≡ b → (f : ℕ) (t : Tracked) → tracked_at (cond b (with_tracked ts new) ts) f ≡ Some t → IsTracked q f t
  each-tracked was true on f t found = elim (cases_eq f (length files + 1)) [
    | inl same ↦
        let is : new ≡ t = (let e : Some new ≡ Some t = sym (found-new new ts) ∙ ap (tracked_at (with_tracked ts new)) (sym same) ∙ found in cc) in
        subst (λ n. IsTracked q n t) (sym same) (subst (IsTracked q (length files + 1)) is tracked-new)
    | inr other ↦ tracked-old f t other (was.each f t (sym (found-beside f new ts other) ∙ found))
  ]
  each-tracked was false off f t found = absurd (let none : None ≡ Some t = sym (ap (λ (xs : List Tracked). tracked_at xs f) (sound.tracker.idle off)) ∙ found in cc)

  -- a datafile of the current path is one still
  path-stays : (f : ℕ) → IsSome (on_path p f) → IsSome (on_path q f)
  path-stays f some = elim (cases_eq f (length files + 1)) [
    | inl same ↦ absurd (let none : on_path p f ≡ None = ap (option_and_then (λ c. cond (exists (world p) i (now_of p) c) (Some c) None)) (file_of-past (world p) f (omega (arith, same))) in let clash : false ≡ true = sym (ap is_some none) ∙ some in cc)
    | inr other ↦ ap (λ o. is_some (option_and_then (λ c. cond (exists (world q) i (now_of q) c) (Some c) None) o)) (file_of-other (world p) d f other) ∙ some
  ]

  -- where changes are tracked each datafile of the current path is, the new one too
  full-tracked : tracked ≡ true → (f : ℕ) (e : Datafile) → on_path q f ≡ Some e → IsSome (tracked_at (cond tracked (with_tracked ts new) ts) f)
  full-tracked on f e here = ap (λ b. is_some (tracked_at (cond b (with_tracked ts new) ts) f)) on ∙ elim (cases_eq f (length files + 1)) [
    | inl same ↦ ap (λ n. is_some (tracked_at (with_tracked ts new) n)) same ∙ ap is_some (found-new new ts)
    | inr other ↦
        let was : on_path p f ≡ Some e = ap (option_and_then (λ c. cond (exists (world q) i (now_of q) c) (Some c) None)) (sym (file_of-other (world p) d f other)) ∙ here in
        ap is_some (found-beside f new ts other) ∙ (sound-further s sound a.on).tracker.full on f e was
  ]

  tracked-created : AreTracked q
  tracked-created = record {
    idle = λ off. ap (λ b. cond b (with_tracked ts new) ts) off ∙ sound.tracker.idle off;
    full = full-tracked;
    each = λ f t found. each-tracked (sound-further s sound a.on).tracker tracked refl f t found;
  }

  pub sound-created : IsSound q
  sound-created =
      let was = sound-further s sound a.on in
      let opened = was.in_open a.on.opened in
      record {
        catalog = file_fits (one_further s) d (catalog-further s sound a.on) datafile-fits;
        dbid = sound.dbid;
        place = record {
          many = (let x = length-append s.instance.place (Some file ∷ []) in let y = length-append files (d ∷ []) in omega (arith, x, y, sound.place.many));
          each = λ k e x at held. subst (IsPlaced tree k e) (sym (counted-open q x a.on.opened)) (place-after k e x at held);
        };
        logs = record { dbid = was.logs.dbid; there = was.logs.there; four = was.logs.four; threads = was.logs.threads; gone = was.logs.gone; each = was.logs.each };
        damaged = damaged-kept p q refl refl (λ f x at. (x, placed-pushed s.instance.place (Some file) (f - 1) x at, omega arith)) path-stays was.damaged;
        tracker = tracked-created;
        in_open = λ _. record { inc = opened.inc; found = opened.found; point = opened.point };
        point = λ n is. absurd (let none = opened.point in cc);
      }

  -- What the history tells

  module _ (h : List Change) (keeps : HistoryFits s h) where
    fits : HistoryFits p h
    fits = fits-further s sound a.on h keeps

    -- no change is of the new datafile
    none-of-new : All (λ c. c.file ≢ length files + 1) h
    none-of-new =
        All-weaker (Contains h) (λ (c : Change). c.file ≢ length files + 1)
        (λ c has met.
        let change = keeps.history.changes c has in
        absurd (omega (arith, met, file-inside (world s) c.file change.datafile change.is)))
        h (All-contains_itself h)

    rows-new : RowsAre (world q) h i (now_of p) file
    rows-new =
        let f = length files + 1 in
        created-all (λ r. r ≡ state (world q) h i (now_of p) f r.block) now blocks
        (λ b. sym (state-untouched (world q) h i (now_of p) f b none-of-new ∙ ap (λ n. created_row n b) creation-new))

    -- the rows of the others are as they were
    rows-old : (f : ℕ) (x : File) → placed s f ≡ Some x → SoundRowsAre s.instance.damaged (world q) h i (now_of p) x
    rows-old f x is =
        let number = (placed-is s (f - 1) x sound.place is).file in
        let inside = slice_get_within s.instance.place (f - 1) (Some x) (get-index s.instance.place (f - 1) x is) in
        All-weaker (λ r. has_block s.instance.damaged x.file r.block ≡ false → r ≡ state (world p) h i (now_of p) x.file r.block) (λ r. has_block s.instance.damaged x.file r.block ≡ false → r ≡ state (world q) h i (now_of p) x.file r.block)
        (λ r was clear. was clear ∙ sym (state-kept (world p) d h i (now_of p) x.file r.block (omega (arith, number, inside, sound.place.many))))
        x.rows (rows-further s sound a.on h keeps f x is)

    rows : (f : ℕ) (x : File) → placed q f ≡ Some x → SoundRowsAre s.instance.damaged (world q) h i (now_of p) x
    rows f x is = elim (placed-push s.instance.place (Some file) (f - 1) x is) [
      | inl old ↦ rows-old f x old
      | inr new ↦ let same : file ≡ x = (let e : Some file ≡ Some x = new in cc) in subst (SoundRowsAre s.instance.damaged (world q) h i (now_of p)) same (but-damaged s.instance.damaged (world q) h i (now_of p) file rows-new)
    ]

    tell-created : (b : Bool) → Tell i h (now_of p) (cond b (with_tracked ts new) ts)
    tell-created true =
        subst (λ n. Tell i h (now_of p) (with_tracked ts (fresh (length files + 1) blocks n))) end
        (new-file-tells i (now_of p) (length files + 1) blocks h ts (lie-below tree i h fits.below) fits.tracker)
    tell-created false = fits.tracker

    fits-created : HistoryFits q h
    fits-created = record {
      history = IsHistory-with_file (world p) d h fits.history;
      below = fits.below;
      online = fits.online;
      place = λ f x is none. sound-agrees q h x a.on.opened (rows f x is) none;
      tracker = tell-created tracked;
      in_open = λ _ f x is. rows f x is;
      point = λ n is. absurd (let none = (sound.in_open a.on.opened).point in cc);
    }

    same-created : SameHistory (world p) (world q) h
    same-created = record {
      keeps = record { there = λ j is. is; reset = λ j is. refl; end = λ j is. omega arith; owners = λ j g is. refl };
      files = (let more = length-append files (d ∷ []) in omega (arith, more));
      base = λ b known inside agrees. BaseAgrees-with_file (world p) d h b inside agrees;
      level1 = λ b known inside agrees. Level1Agrees-with_file (world p) d h b inside agrees;
    }

  -- each datafile that was there is there
  grows-created : GrowsTo (database_of s.catalog.ledger) (database_of q.catalog.ledger)
  grows-created = record { dbid = refl; files = λ k e is. slice_get-front files d k (slice_get_within files k e is) ∙ is }

  borne-created : (h : List Change) (objects : Held) (made : List Made) (touched : List (List ℕ)) → IsBorneOut s h objects made touched → IsBorneOut q h objects made touched
  borne-created h objects made touched stands = record {
    state = sound-created;
    keeps = fits-created h stands.keeps;
    artefacts = λ x has. true-on (world p) (world q) h (same-created h stands.keeps) x.artefact (true-on (world s) (world p) h (same-further s sound a.on h) x.artefact (stands.artefacts x has));
    records = kept-on objects objects made made touched touched s.catalog.ledger q.catalog.ledger grows-created
        (stand-same objects objects touched s.catalog.ledger q.catalog.ledger (λ n. refl)) (λ x has. has) (λ e has. inl has) (λ e has. inl has) (λ e has. inl has) stands.records;
  }

-- a CREATE DATAFILE of the grammar asks for a block
some-blocks : (blocks : ℕ) → is_command (CreateDatafile blocks) ≡ true → 1 ≤ blocks
some-blocks blocks is = leb-true 1 blocks (and_parts (nat_le 1 blocks) (nat_le blocks (2 ^ 64 - 1)) is).0

pub create-on : (blocks : ℕ) → LeadsOnBy (CreateDatafile blocks)
create-on blocks s h objects made touched said e t after well stands tell none does effect =
    quiet-on (with_datafile s blocks) h objects made touched _ said e t after does effect
    (borne-created s blocks stands.state (has-room s blocks none) (some-blocks blocks well.0) h objects made touched stands)

pub create-stays : (blocks : ℕ) → StaysBy (CreateDatafile blocks)
create-stays blocks s objects said e t well sound none accepted does =
    quiet-stays (with_datafile s blocks) _ said e t does (sound-created s blocks sound (has-room s blocks accepted) (some-blocks blocks well.0)) none
