-- What put_place records is a saved site.
use Rattle.std.specs.Option.{option_map_or}
use Rattle.std.proofs.Common.{◌≡◌, ◌≢◌, Contains, ◌<◌, ◌≤◌, ◌+◌, ◌∙◌, ℕ, Option, Some, None, false, refl, ap, subst, arith, length}
use Rattle.std.proofs.lemmas.{List.Elements.{All-contains}, Option.{slice_get_within}}
use Rattle.rm_base.proofs.{Sealing.{length-sealed}, Standing.{each-in}}
use Rattle.rm_catalog.specs.declared.record.{BaseEntry.{BaseEntry}, HeadEntry.{HeadEntry}, LogEntry.{LogEntry}, PartEntry.{PartEntry}}
use Rattle.rm_catalog.specs.declared.record.{PieceEntry.{PieceEntry}, SetEntry.{SetEntry}}
use Rattle.rm_evidence.specs.Gathered.{placed_piece}
use Rattle.rm_history.specs.Tree.{IsThere}
use Rattle.rm_piece.specs.Spelling as piece
use Rattle.rm_piece.proofs.Bodies as piece_bodies
use Rattle.rm_piece.proofs.Fitting as piece_fitting
use Rattle.rm_redo.specs.LogFormat as log
use Rattle.rm_redo.proofs.LogBodies as log_bodies
use Rattle.rm_redo.proofs.LogFitting as log_fitting
use Rattle.rm_catalog_typed.specs.{Changes.{with_base}, Facts.{AreApart, IsPartEntry, IsTypedCatalog, IsSaved}, Fitting.{FitsBase}}
use Rattle.rm_catalog_typed.{specs.TypedCatalog.{TypedCatalog, Saved}, proofs.{Changed.{saved_fits}, Fitted.{base_fits}}}
use Rattle.rm_machine.specs.{Marks.{lacks_ids}, Saving.{SitePart, entry_of, head_of, object_of, parts_of, saved_of, with_ids, with_site}}
use Rattle.rm_machine.specs.{Sound.{IsSound}, State.{ledger, counted, current_of, online}, declared.state.State.{State}}
use Rattle.rm_machine.proofs.{Switching.{not-above}, PartIds.{ids-from, ids-pairs}}
use Rattle.rm_session.specs.{Adding.{no_parts, with_parts}, declared.site_parts.Parts.{Parts}}
use Rattle.rm_session.proofs.Adding.{parts-entries, parts-next, parts-objects}
use Rattle.rm_session.proofs.PartsOf.{IsOther, IsPartOf, file-valid, of_file, of_thread, part-of, parts-apart, parts-few}

-- the next id after a save
abbrev pub next_after : State → ℕ
next_after s = (ledger s).base.next_id + length (parts_of s)

-- the catalog with that next id
abbrev pub with_ids_drawn : State → TypedCatalog
with_ids_drawn s = with_base s.catalog (record (ledger s).base { next_id = next_after s })

module _ (s : State) (sound : IsSound s) (ids : lacks_ids s 0 ≡ false) where
  -- the ids of a save are left
  pub ids-left : next_after s ≤ 4294967295
  ids-left =
      omega (arith, not-above 4294967295 ((ledger s).base.next_id + 0 + 68) ids, parts-few s sound)

  pub base-drawn : FitsBase s.catalog (record (ledger s).base { next_id = next_after s })
  base-drawn =
      let is = sound.catalog.ledger in
      record {
        facts = record { dbid = is.base.dbid; threads = is.base.threads; next_id = (omega (arith, is.base.next_id.0), ids-left); moment = is.base.moment; policy = is.base.policy; parallelism = is.base.parallelism };
        current = is.current;
        threads = refl;
        next_id = omega arith;
        moment = omega arith;
      }

  part-fits : (p : SitePart) (id : ℕ) → IsPartOf s p → 1 ≤ id → id < next_after s → IsPartEntry (with_ids_drawn s).ledger (entry_of id p)
  part-fits _ id (of_file k x at) low high =
      let a = placed_piece (ledger s).base.dbid (counted s x) in
      let valid = file-valid s sound k x at in
      record {
        id = (low, high);
        size = omega (arith, piece_bodies.length-body a (piece_fitting.fits a valid), length-sealed (piece.body_of a), valid.blocks.1, valid.kind.1);
        thread = λ none. absurd (omega (arith, none));
        file = λ some. (refl, omega (arith, slice_get_within s.instance.place k (Some x) at, sound.place.many));
      }
  part-fits _ id (of_thread t there found) low high =
      let a = online s t in
      let valid = (sound.logs.each t there found).valid in
      record {
        id = (low, high);
        size = omega (arith, log_bodies.length-body a (log_fitting.fits a valid), length-sealed (log.body_of a), valid.few);
        thread = λ none. (there.0, omega (arith, there.1, sound.logs.four));
        file = λ file. absurd (omega (arith, file));
      }

  -- the ids of the parts are new
  new-id : (id : ℕ) (p : PartEntry) → id < (ledger s).base.next_id → Contains (saved_of s).parts p → id ≢ p.id
  new-id id p below has same =
      let from = ids-from entry_of (ledger s).base.next_id (parts_of s) p has in
      absurd (omega (arith, ap (λ (q : PartEntry). q.id) from.is, same, below))

  pub site-fits : IsSaved (with_ids_drawn s).ledger (saved_of s)
  site-fits =
      let next = (ledger s).base.next_id in
      let is = sound.catalog.ledger in
      record {
        parts = each-in (IsPartEntry (with_ids_drawn s).ledger) (saved_of s).parts (λ e has.
            let from = ids-from entry_of next (parts_of s) e has in
            subst (IsPartEntry (with_ids_drawn s).ledger) from.is (part-fits from.part (next + from.at) (part-of s sound from.part from.held) (omega (arith, is.base.next_id.0)) (omega (arith, from.inside))));
        apart = ids-pairs entry_of IsOther AreApart (next_after s) (λ i j p q less most other. record { ids = less; things = other }) next (parts_of s) (omega arith) (parts-apart s);
        logs = λ e p has held. new-id e.id p (All-contains (λ (x : LogEntry). (1 ≤ x.id) × (x.id < next)) (ledger s).logs e is.ids.logs has).1 held;
        pieces = λ e p has held. new-id e.id p (All-contains (λ (x : PieceEntry). (1 ≤ x.id) × (x.id < next)) (ledger s).pieces e is.ids.pieces has).1 held;
        sets = λ e p has held. new-id e.id p (All-contains (λ (x : SetEntry). (1 ≤ x.id) × (x.id < next)) (ledger s).sets e is.ids.sets has).1 held;
        point = point-there s.instance.point;
      }
    where
      point-there : (o : Option ℕ) → 0 < option_map_or (λ at. current_of s) o 0 → IsThere (ledger s).tree (option_map_or (λ at. current_of s) o 0)
      point-there None some = absurd (omega (arith, some))
      point-there (Some at) some = sound.catalog.ledger.current

  pub site-typed_catalog : IsTypedCatalog (with_site s)
  site-typed_catalog = saved_fits (with_ids_drawn s) (saved_of s) (base_fits s.catalog (record (ledger s).base { next_id = next_after s }) sound.catalog base-drawn) site-fits

-- The records as they are drawn

abbrev drawn_parts : State → Parts
drawn_parts s = with_parts (parts_of s) (no_parts (ledger s).base.next_id)

pub next-is : (s : State) (x : Parts) → x ≡ drawn_parts s → x.next ≡ next_after s
next-is s x is = ap (λ (y : Parts). y.next) is ∙ parts-next (parts_of s) (no_parts (ledger s).base.next_id)

pub objects-is : (s : State) (x : Parts) → x ≡ drawn_parts s → x.objects ≡ with_ids object_of (ledger s).base.next_id (parts_of s)
objects-is s x is = ap (λ (y : Parts). y.objects) is ∙ parts-objects (parts_of s) (no_parts (ledger s).base.next_id)

pub base-is : (s : State) (b : BaseEntry) (x : Parts) → b ≡ (ledger s).base → x ≡ drawn_parts s → record b { next_id = x.next } ≡ record (ledger s).base { next_id = next_after s }
base-is s b x base is =
    λ i. record (base i) { next_id = next-is s x is i }

pub site-is : (s : State) (site : Saved) (x : Parts) (head : HeadEntry) → x ≡ drawn_parts s → site.parts ≡ x.entries → site.head ≡ head → head ≡ head_of s → site ≡ saved_of s
site-is s site x head is parts told here =
    let entries = parts ∙ ap (λ (y : Parts). y.entries) is ∙ parts-entries (parts_of s) (no_parts (ledger s).base.next_id) in
    λ i. record { parts = entries i; head = (told ∙ here) i }
