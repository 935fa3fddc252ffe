-- Along the events of a BLOCKRECOVER the database fits its history, but for the blocks that are still damaged.
use Rattle.std.specs.Option.{option_and_then, option_map}
use Rattle.std.proofs.Common.{◌≡◌, ◌≢◌, ◌<◌, ◌-◌, ◌∙◌, ◌++◌, ◌==◌, ◌&&◌, ◌||◌, not, inl, inr, ℕ, List, [], ◌∷◌, Some, None, Ok, Err, Bool, true, false, filter, refl, ap, sym, subst, arith, append_assoc, Contains, slice_get}
use Rattle.std.proofs.lemmas.{Bool.{and_from, and_parts, cases_Bool, cases_eq, eq-eqb, or_parts}, List.{append-nil}}
use Rattle.std.proofs.lemmas.List.Elements.{All-contains, All-weaker}
use Rattle.rm_base.specs.{Store.{Held}, declared.block.{BlockId.{BlockId}, Change.{Change}, Row.{Row}}}
use Rattle.rm_base.proofs.{Lists.{filter_from, filter_to}, Slots.{all-get, all-set_others, get-set_other, index-set}}
use Rattle.rm_blocks.specs.File.{File, put}
use Rattle.rm_history.{specs.State.{state}, proofs.Worlds.{file-there}}
use Rattle.rm_lang_statement.specs.declared.command.WriteForm.{WriteForm}
use Rattle.rm_live.specs.{History.{IsLegal, IsRight}, Touched.{is_mend_of, is_mended, is_touched, is_write_of}}
use Rattle.rm_live.specs.declared.history.{Answer.{Answer, TheVariants.{Found, Mended, Wrote}}, Call.{Call}}
use Rattle.rm_live.specs.declared.history.{Call.TheVariants.{Mend, Read, Write}, Event.{Event}}
use Rattle.rm_machine.specs.{Damage.{has_block}, Dump.{placed_row}, Effect.{Made}}
use Rattle.rm_machine.specs.Events.{after_event, after_events, change_by, changes_of, opening, with_placed_row, write_form}
use Rattle.rm_machine.specs.{Machine.{HistoryFits, IsBorneOut, SoundRowsAre}, Write.{change_of, with_write}}
use Rattle.rm_machine.specs.{State.{current_of, now_of, placed, world}, declared.state.State.{State}}
use Rattle.rm_machine.proofs.{BackupAccepted.{CanBeWritten}, Damaged.{placed-put, placed-put_other, with_list}}
use Rattle.rm_machine.proofs.{Mending.{AreDue, CanMend, IsDue, IsPatch, Patch, can-event, row_of}, Places.{placed-is}}
use Rattle.rm_machine.proofs.{Putting.{sound-fewer, sound-put}, Walk.{CanGoOn, accepted, full, legal-on}, Writes.{Accepted}}
use Rattle.rm_machine.proofs.DamagedLists.{any-fewer, same-block}
use Rattle.rm_machine_laws.proofs.{DamagedRows.{sound-agrees}, Writing.{borne-write}, WritesKeep.{state-write}}

-- A block that is neither mended nor written

row-put : (u : State) (g : ℕ) (row : Row) (f b : ℕ) (x : File) → 0 < g → 0 < f → placed u g ≡ Some x → ((g == f) && (row.block == b)) ≡ false → placed_row (with_placed_row u g row) f b ≡ placed_row u f b
row-put u g row f b x some there stands other = elim (cases_eq g f) [
  | inl same ↦
      let apart : b ≢ row.block = λ e. absurd (let clash : true ≡ false = sym (and_from (g == f) (row.block == b) (eq-eqb g f same) (eq-eqb row.block b (sym e))) ∙ other in cc) in
      let now : placed (with_placed_row u g row) f ≡ Some (put x row) = subst (λ n. placed (with_placed_row u g row) n ≡ Some (put x row)) same (placed-put u g row x stands) in
      let was : placed u f ≡ Some x = subst (λ n. placed u n ≡ Some x) same stands in
      ap (option_and_then (λ (y : File). slice_get y.rows b)) now ∙ get-set_other x.rows row.block b row apart ∙ sym (ap (option_and_then (λ (y : File). slice_get y.rows b)) was)
  | inr apart ↦ ap (option_and_then (λ (y : File). slice_get y.rows b)) (placed-put_other u g f row (λ e. apart (omega (arith, e, some, there))))
]

row-event : (u : State) (ws : List WriteForm) (ms : List Patch) → CanMend u ws ms → (f b : ℕ) → 0 < f → (c : Call) (answer : Answer) → IsRight (opening u) c answer → IsDue ws ms c answer
    → (is_mend_of f b c || is_write_of f b c) ≡ false → placed_row (after_event u c answer) f b ≡ placed_row u f b
row-event u ws ms can f b there (Read g c) answer right due other = refl
row-event u ws ms can f b there (Write t g c content) (Found row) right due other = refl
row-event u ws ms can f b there (Write t g c content) (Wrote (Ok scn)) right due other =
    let it = All-contains (CanBeWritten u) ws (write_form t g c content) can.on.writes due in
    row-put u g (row_of u (write_form t g c content)) f b it.file (file-there (world u) g it.datafile it.is).0 there it.stands other
row-event u ws ms can f b there (Write t g c content) (Wrote (Err fault)) right due other = refl
row-event u ws ms can f b there (Write t g c content) (Mended made) right due other = refl
row-event u ws ms can f b there (Mend g row) (Found found) right due other = refl
row-event u ws ms can f b there (Mend g row) (Wrote w) right due other = refl
row-event u ws ms can f b there (Mend g row) (Mended true) right due other =
    let it = can.patches (g, row) due in
    row-put u g row f b it.file it.some there it.is (or_parts ((g == f) && (row.block == b)) false other).0
row-event u ws ms can f b there (Mend g row) (Mended false) right due other = refl

pub row-events : (ws : List WriteForm) (ms : List Patch) (es : List Event) (u : State) → CanMend u ws ms → IsLegal (opening u) es → AreDue ws ms es → (f b : ℕ) → 0 < f → is_touched es f b ≡ false
    → placed_row (after_events u es) f b ≡ placed_row u f b
row-events ws ms [] u can legal due f b there none = refl
row-events ws ms (e ∷ es) u can legal due f b there none =
    let both = or_parts (is_mend_of f b e.call || is_write_of f b e.call) (is_touched es f b) none in
    row-events ws ms es (after_event u e.call e.answer) (can-event u ws ms can e.call e.answer legal.0 due.0) (legal-on u ws can.on e es legal) due.1 f b there both.1
    ∙ row-event u ws ms can f b there e.call e.answer legal.0 due.0 both.0

-- The history

-- the database where only these blocks of its list are damaged
abbrev pub but : State → (BlockId → Bool) → State
but u p = with_list u (filter p u.instance.damaged)

-- the blocks that are still damaged after an event, and after all of them
abbrev left_by : (BlockId → Bool) → Call → BlockId → Bool
left_by p c x = not (is_mend_of x.file x.block c) && p x

abbrev pub left : (BlockId → Bool) → List Event → BlockId → Bool
left p [] = p
left p (e ∷ es) = left (left_by p e.call) es

-- each row is the state of its block
abbrev pub KnowsRows : State → List Change → List Patch → Type 0
KnowsRows u h ms = (m : Patch) → Contains ms m → m.1 ≡ state (world u) h (current_of u) (now_of u) m.0 m.1.block

-- what is known at each turn
pub record Knows (u : State) (p : BlockId → Bool) (ms : List Patch) (h : List Change) (objects : Held) (made : List Made) (touched : List (List ℕ)) : Type 0 where
  pub borne : IsBorneOut (but u p) h objects made touched
  pub rows : KnowsRows u h ms

module _ (u : State) (ws : List WriteForm) (ms : List Patch) (can : CanMend u ws ms) (p : BlockId → Bool) (h : List Change) (objects : Held) (made : List Made) (touched : List (List ℕ)) (knows : Knows u p ms h objects made touched) where
  abbrev s : State
  s = but u p

  go : CanGoOn s ws
  go = record {
    sound = knows.borne.state;
    opened = can.on.opened;
    unmarked = can.on.unmarked;
    writes = All-weaker (CanBeWritten u) (CanBeWritten s) (λ w it. record { thread = it.thread; datafile = it.datafile; is = it.is; here = it.here; block = it.block; file = it.file; stands = it.stands }) ws can.on.writes;
    contents = can.on.contents;
  }

  knows-write : (w : WriteForm) → Contains ws w → (scn : ℕ) → IsRight (opening u) (Write w.thread w.file w.block w.content) (Wrote (Ok scn)) → Knows (with_write u w) p ms (h ++ change_of u w ∷ []) objects made touched
  knows-write w has scn right =
      let a : Accepted s w = accepted s ws go w has scn right in
      record {
        borne = borne-write s w h objects made touched a (full s ws go w has scn right) knows.borne;
        rows = λ m is. knows.rows m is ∙ sym (state-write s w h knows.borne.state knows.borne.keeps a m.0 m.1.block (can.apart w m has is));
      }

  module _ (m : Patch) (has : Contains ms m) (right : IsRight (opening u) (Mend m.0 m.1) (Mended true)) where
    abbrev v : State
    v = with_placed_row u m.0 m.1

    abbrev r : BlockId → Bool
    r = left_by p (Mend m.0 m.1)

    at : IsPatch u m
    at = can.patches m has

    number : at.file.file ≡ m.0
    number = let place = (placed-is u (m.0 - 1) at.file can.on.sound.place at.is).file in let some = at.some in omega (arith, place, some)

    abbrev Was : ℕ → Row → Type 0
    Was g y = has_block s.instance.damaged g y.block ≡ false → y ≡ state (world u) h (current_of u) (now_of u) g y.block

    abbrev Is : ℕ → Row → Type 0
    Is g y = has_block (but v r).instance.damaged g y.block ≡ false → y ≡ state (world u) h (current_of u) (now_of u) g y.block

    -- another block is on the list if it was
    weaker : (g : ℕ) (y : Row) → (m.0 ≡ g → m.1.block ≢ y.block) → Was g y → Is g y
    weaker g y other was clear = was (any-fewer (λ x. (x.file == g) && (x.block == y.block)) (filter p u.instance.damaged) (filter r u.instance.damaged) (λ x on is.
        let both = filter_from p u.instance.damaged x on in
        let same = same-block x g y.block is in
        let apart : ((m.0 == x.file) && (m.1.block == x.block)) ≡ false = elim (cases_Bool ((m.0 == x.file) && (m.1.block == x.block))) [
          | inr out ↦ out
          | inl in_all ↦
              let of = same-block (record { file = m.0; block = m.1.block }) x.file x.block in_all in
              absurd (other (ap (λ (z : BlockId). z.file) (of ∙ same)) (ap (λ (z : BlockId). z.block) (of ∙ same)))
        ] in
        filter_to r u.instance.damaged x both.0 (ap (λ t. not t && p x) apart ∙ both.1)) clear)

    rows-mended : (g : ℕ) (y : File) → placed v g ≡ Some y → SoundRowsAre (but v r).instance.damaged (world u) h (current_of u) (now_of u) y
    rows-mended g y is = elim (index-set u.instance.place (m.0 - 1) (g - 1) (option_map (λ (z : File). put z m.1) (placed u m.0)) y is) [
      | inr other ↦
          let file = (placed-is u (g - 1) y can.on.sound.place other.1).file in
          All-weaker (Was y.file) (Is y.file) (λ z. weaker y.file z (λ e. absurd (other.0 (omega (arith, e, file))))) y.rows (knows.borne.keeps.in_open can.on.opened g y other.1)
      | inl same ↦
          let got : Some (put at.file m.1) ≡ Some y = sym (ap (option_map (λ (z : File). put z m.1)) at.is) ∙ same.1 in
          let by : put at.file m.1 ≡ y = cc in
          let order = (placed-is u (m.0 - 1) at.file can.on.sound.place at.is).order in
          subst (SoundRowsAre (but v r).instance.damaged (world u) h (current_of u) (now_of u)) by
          (all-set_others (Is at.file.file) at.file.rows m.1.block m.1
          (λ clear. subst (λ n. m.1 ≡ state (world u) h (current_of u) (now_of u) n m.1.block) (sym number) (knows.rows m has))
          (λ n z row apart. weaker at.file.file z (λ e same_block. apart (sym (order n z row) ∙ sym same_block))
          (all-get (Was at.file.file) at.file.rows n z row (knows.borne.keeps.in_open can.on.opened m.0 at.file at.is))))
    ]

    fits-mended : HistoryFits (but v r) h
    fits-mended =
        let keeps = knows.borne.keeps in
        record {
          history = keeps.history;
          below = keeps.below;
          online = keeps.online;
          place = λ g y is none. sound-agrees (but v r) h y can.on.opened (rows-mended g y is) none;
          tracker = keeps.tracker;
          in_open = λ mode g y is. rows-mended g y is;
          point = λ n is. absurd (let none = (can.on.sound.in_open can.on.opened).point in let clash : None ≡ Some n = sym none ∙ is in cc);
        }

    knows-mend : Knows v r ms (h ++ []) objects made touched
    knows-mend = subst (λ k. Knows v r ms k objects made touched) (sym (append-nil h)) (record {
      borne = record {
        state = sound-fewer v r (sound-put u m.0 m.1 can.on.sound can.on.opened at.row right.1);
        keeps = fits-mended;
        artefacts = knows.borne.artefacts;
        records = record { logs = knows.borne.records.logs; pieces = knows.borne.records.pieces; sets = knows.borne.records.sets };
      };
      rows = knows.rows;
    })

  knows-event : (c : Call) (answer : Answer) → IsRight (opening u) c answer → IsDue ws ms c answer → Knows (after_event u c answer) (left_by p c) ms (h ++ change_by u c answer) objects made touched
  knows-event (Read f b) answer right due = absurd due
  knows-event (Write t f b content) (Found row) right due = absurd due
  knows-event (Write t f b content) (Wrote (Ok scn)) right due = knows-write (write_form t f b content) due scn right
  knows-event (Write t f b content) (Wrote (Err fault)) right due = absurd due
  knows-event (Write t f b content) (Mended done) right due = absurd due
  knows-event (Mend f row) (Found found) right due = absurd due
  knows-event (Mend f row) (Wrote w) right due = absurd due
  knows-event (Mend f row) (Mended true) right due = knows-mend (f, row) due right
  knows-event (Mend f row) (Mended false) right due = absurd due

pub knows-events : (ws : List WriteForm) (ms : List Patch) (es : List Event) (u : State) (p : BlockId → Bool) (h : List Change) (objects : Held) (made : List Made) (touched : List (List ℕ)) → CanMend u ws ms → Knows u p ms h objects made touched
    → IsLegal (opening u) es → AreDue ws ms es → Knows (after_events u es) (left p es) ms (h ++ changes_of u es) objects made touched
knows-events ws ms [] u p h objects made touched can knows legal due = subst (λ k. Knows u p ms k objects made touched) (sym (append-nil h)) knows
knows-events ws ms (e ∷ es) u p h objects made touched can knows legal due =
    let q : State = after_event u e.call e.answer in
    subst (λ k. Knows (after_events q es) (left (left_by p e.call) es) ms k objects made touched) (append_assoc h (change_by u e.call e.answer) (changes_of q es))
    (knows-events ws ms es q (left_by p e.call) (h ++ change_by u e.call e.answer) objects made touched (can-event u ws ms can e.call e.answer legal.0 due.0)
    (knows-event u ws ms can p h objects made touched knows e.call e.answer legal.0 due.0) (legal-on u ws can.on e es legal) due.1)

-- what is still damaged was not mended
pub left-from : (es : List Event) (p : BlockId → Bool) (x : BlockId) → left p es x ≡ true → (is_mended es x.file x.block ≡ false) × (p x ≡ true)
left-from [] p x is = (refl, is)
left-from (e ∷ es) p x is =
    let rest = left-from es (left_by p e.call) x is in
    let both = and_parts (not (is_mend_of x.file x.block e.call)) (p x) rest.1 in
    (by (is_mend_of x.file x.block e.call) both.0 ∙ rest.0, both.1)
  where
    by : (t : Bool) → not t ≡ true → (t || is_mended es x.file x.block) ≡ is_mended es x.file x.block
    by true none = absurd (cc)
    by false none = refl
