-- HOST CORRUPT leads on: a block in place is damaged.
use Rattle.std.specs.Option.{option_map, option_map_or}
use Rattle.std.proofs.Common.{◌≡◌, ◌<◌, ◌-◌, ◌∙◌, ◌==◌, ◌&&◌, inl, inr, ℕ, List, Option, Some, None, IsSome, is_some, Bool, true, false, cond, refl, ap, sym, subst, arith, slice_get}
use Rattle.std.proofs.lemmas.{Bool.{false≢true}, List.{length-map, Elements.{All-weaker}}, Option.{option_and_then_some, slice_get_within}}
use Rattle.rm_base.specs.{Store.{Held}, declared.{block.{BlockId.{BlockId}, Change.{Change}, Row.{Row}}, refusal.Refusal.{Refusal}}}
use Rattle.rm_base.proofs.{Conditions.{only-where}, Lists.{any_to}, Slots.{all-get, all-set_others, index-set}}
use Rattle.rm_blocks.specs.File.{File, put}
use Rattle.rm_history.{specs.{State.{state}, declared.world.Datafile.{Datafile}}, proofs.Worlds.{file-there}}
use Rattle.rm_lang_statement.specs.declared.command.Command.TheVariants.{Corrupt}
use Rattle.rm_machine.specs.{Corrupt.{corrupt_refusal, corrupted, flipped, with_damage}, Damage.{IsInPlace, has_block, has_file}}
use Rattle.rm_machine.specs.{Dump.{placed_row}, Effect.{Made}, Events.{with_placed_row}, Machine.{HistoryFits, IsBorneOut, SoundRowsAre}}
use Rattle.rm_machine.specs.{Sound.{IsSound}, State.{current_of, now_of, on_path, placed, world}, declared.state.State.{State}}
use Rattle.rm_machine.proofs.{Damaged.{put-stays}, Found.{IsReadOf, read-found}, Places.{placed-is}, Putting.{sound-more, sound-put}}
use Rattle.rm_machine.proofs.{Tracked.{on-path}, DamagedLists.{any-fewer, is-block, with-block-new, with-block-old}}
use Rattle.rm_machine_laws.proofs.{DamagedRows.{sound-agrees}, Leading.{LeadsOnBy, StaysBy}, Quiet.{quiet-on, quiet-stays}}

-- a row that stands in place is found there
pub row-found : (s : State) (f b : ℕ) (r : Row) → IsSound s → 0 < f → placed_row s f b ≡ Some r → IsReadOf s f b r
row-found s f b r sound some is =
    option_and_then_some (λ (x : File). slice_get x.rows b) (placed s f) r is (λ x stands row.
    record { some = some; file = x; number = (let place = (placed-is s (f - 1) x sound.place stands).file in omega (arith, place, some)); stands = stands; row = row })

module _ (s : State) (f b : ℕ) (r : Row) (sound : IsSound s) (opened : s.instance.is_open ≡ true) (path : IsSome (on_path s f)) (at : IsReadOf s f b r) where
  abbrev q : State
  q = with_damage s f r

  abbrev x : BlockId
  x = record { file = f; block = r.block }

  abbrev bad : Row
  bad = record r { content = flipped r.content }

  here : IsInPlace (with_placed_row s f bad) x
  here =
      let found = read-found s f b r sound opened at in
      let stays = put-stays s f bad f at.file at.stands in
      record { some = at.some; here = path; file = stays.0; is = stays.1; block = (let inside = slice_get_within at.file.rows b r at.row in let least = stays.2 in omega (arith, found.0, inside, least)) }

  sound-damage : IsSound q
  sound-damage =
      let found = (read-found s f b r sound opened at).1 in
      sound-more (with_placed_row s f bad) x
      (sound-put s f bad sound opened (record { version = found.row.version; content = length-map r.content.0 (λ byte. 255 - byte) ∙ found.row.content }) found.below)
      opened here

  -- it is on the list, and what is not there was not there before
  on-list : has_block q.instance.damaged f r.block ≡ true
  on-list = any_to (λ y. (y.file == f) && (y.block == r.block)) q.instance.damaged x (with-block-new x s.instance.damaged) (is-block x f r.block refl refl)

  file-before : (g : ℕ) → has_file q.instance.damaged g ≡ false → has_file s.instance.damaged g ≡ false
  file-before g = any-fewer (λ y. y.file == g) s.instance.damaged q.instance.damaged (λ y has is. with-block-old x s.instance.damaged y has)

  block-before : (g c : ℕ) → has_block q.instance.damaged g c ≡ false → has_block s.instance.damaged g c ≡ false
  block-before g c = any-fewer (λ y. (y.file == g) && (y.block == c)) s.instance.damaged q.instance.damaged (λ y has is. with-block-old x s.instance.damaged y has)

  module _ (h : List Change) (keeps : HistoryFits s h) where
    abbrev Was : ℕ → Row → Type 0
    Was g y = has_block s.instance.damaged g y.block ≡ false → y ≡ state (world s) h (current_of s) (now_of s) g y.block

    abbrev Is : ℕ → Row → Type 0
    Is g y = has_block q.instance.damaged g y.block ≡ false → y ≡ state (world s) h (current_of s) (now_of s) g y.block

    weaker : (g : ℕ) (y : Row) → Was g y → Is g y
    weaker g y was clear = was (block-before g y.block clear)

    -- but for the block all rows are as they were
    rows-put : Is at.file.file bad → SoundRowsAre q.instance.damaged (world s) h (current_of s) (now_of s) (put at.file bad)
    rows-put new =
        all-set_others (Is at.file.file) at.file.rows r.block bad new
        (λ n y is other. weaker at.file.file y (all-get (Was at.file.file) at.file.rows n y is (keeps.in_open opened f at.file at.stands)))

    rows-damage : (g : ℕ) (y : File) → placed q g ≡ Some y → SoundRowsAre q.instance.damaged (world s) h (current_of s) (now_of s) y
    rows-damage g y is = elim (index-set s.instance.place (f - 1) (g - 1) (option_map (λ (z : File). put z bad) (placed s f)) y is) [
      | inr other ↦ All-weaker (Was y.file) (Is y.file) (weaker y.file) y.rows (keeps.in_open opened g y other.1)
      | inl same ↦
          let got : Some (put at.file bad) ≡ Some y = sym (ap (option_map (λ (z : File). put z bad)) at.stands) ∙ same.1 in
          let made : put at.file bad ≡ y = cc in
          subst (SoundRowsAre q.instance.damaged (world s) h (current_of s) (now_of s)) made
          (rows-put (λ clear. absurd (false≢true (sym clear ∙ ap (λ n. has_block q.instance.damaged n r.block) at.number ∙ on-list))))
    ]

    fits-damage : HistoryFits q h
    fits-damage = record {
      history = keeps.history;
      below = keeps.below;
      online = keeps.online;
      place = λ g y is none. sound-agrees q h y opened (rows-damage g y is) none;
      tracker = keeps.tracker;
      in_open = λ mode g y is. rows-damage g y is;
      point = λ n is. absurd (let none = (sound.in_open opened).point in let clash : None ≡ Some n = sym none ∙ is in cc);
    }

-- A block that was damaged before stays as it is

either : (P : State → Type 0) (s t : State) (b : Bool) → P s → P t → P (cond b s t)
either P s t true was new = was
either P s t false was new = new

pub sound-corrupted : (s : State) (f b : ℕ) (r : Row) → IsSound s → s.instance.is_open ≡ true → IsSome (on_path s f) → IsReadOf s f b r → IsSound (corrupted s f r)
sound-corrupted s f b r sound opened path at = either IsSound s (with_damage s f r) (has_block s.instance.damaged f r.block) sound (sound-damage s f b r sound opened path at)

borne-corrupted : (s : State) (f b : ℕ) (r : Row) (h : List Change) (objects : Held) (made : List Made) (touched : List (List ℕ)) → s.instance.is_open ≡ true → IsSome (on_path s f) → IsReadOf s f b r → IsBorneOut s h objects made touched → IsBorneOut (corrupted s f r) h objects made touched
borne-corrupted s f b r h objects made touched opened path at stands =
    either (λ t. IsBorneOut t h objects made touched) s (with_damage s f r) (has_block s.instance.damaged f r.block) stands (record {
      state = sound-damage s f b r stands.state opened path at;
      keeps = fits-damage s f b r stands.state opened path at h stands.keeps;
      artefacts = stands.artefacts;
      records = record { logs = stands.records.logs; pieces = stands.records.pieces; sets = stands.records.sets };
    })

-- Why it was not refused

some-of : {X : Type 0} (g : X → Option Refusal) (o : Option X) (r : Refusal) → option_map_or g o (Some r) ≡ None → (x : X) × (o ≡ Some x)
some-of g None r is = absurd (cc)
some-of g (Some x) r is = (x, refl)

-- the database is open, and the datafile is on the current path, so its number is not 0
can-corrupt : (s : State) (f b : ℕ) → corrupt_refusal s f b ≡ None → (s.instance.is_open ≡ true) × IsSome (on_path s f) × (0 < f)
can-corrupt s f b is =
    let mode = only-where s.instance.is_open _ _ is in
    let d : (x : Datafile) × (on_path s f ≡ Some x) = some-of _ (on_path s f) _ mode.1 in
    (mode.0, ap is_some d.1, (file-there (world s) f d.0 (on-path s f d.0 d.1).0).0)

pub corrupt-on : (f b : ℕ) → LeadsOnBy (Corrupt f b)
corrupt-on f b s h objects made touched said e t after well stands tell none does effect =
    let can = can-corrupt s f b none in
    quiet-on (corrupted s f does.0) h objects made touched _ said e t after does.2 effect
    (borne-corrupted s f b does.0 h objects made touched can.0 can.1 (row-found s f b does.0 stands.state can.2 does.1) stands)

pub corrupt-stays : (f b : ℕ) → StaysBy (Corrupt f b)
corrupt-stays f b s objects said e t well sound none accepted does =
    let can = can-corrupt s f b accepted in
    quiet-stays (corrupted s f does.0) _ said e t does.2 (sound-corrupted s f b does.0 sound can.0 can.1 (row-found s f b does.0 sound can.2 does.1))
    (either (λ q. q.catalog.saved ≡ None) s (with_damage s f does.0) (has_block s.instance.damaged f does.0.block) none none)
