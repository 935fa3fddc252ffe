-- What is loaded of a saved site makes a sound database, whatever the store holds.
use Rattle.std.proofs.Common.{◌≡◌, ◌<◌, ◌+◌, ◌^◌, ◌∙◌, inl, inr, ℕ, List, Option, Some, Bool, true, false, not, refl, sym, ap, subst, arith, length, All, slice_get}
use Rattle.std.proofs.lemmas.{Bool.{and_parts, cases_Bool, false≢true, not-true}, Option.{none-some}}
use Rattle.rm_blocks.specs.File.{File, standing}
use Rattle.rm_history.specs.{Tree.{IsThere, end_of}, declared.world.Datafile.{Datafile}}
use Rattle.rm_catalog_typed.specs.{Ledger.{Ledger}, Switches.{is_enabled_in}, Facts.{IsTypedCatalog}, TypedCatalog.{Saved}}
use Rattle.rm_machine.specs.{Loading.{file_in, inc_of_first}, Sound.{AreOnline, ArePlaced, IsGone, IsOnline, IsOpen, IsPlaced, IsSound}}
use Rattle.rm_machine.specs.{State.{has_lost, counted, is_lost, ledger, online, tree}, declared.state.State.{State}}
use Rattle.rm_machine.proofs.{Damaged.{damaged-none}, Places.{counted-closed, counted-open}, Tracked.{tracked-fresh}, LostLogs.{lost-found}}
use Rattle.rm_machine.proofs.{OnlineParts.{online-part, told-four, told-gone, told-has}, FirstLogs.{first-is}}
use Rattle.rm_piece.proofs.Whole.{full}
use Rattle.rm_redo.specs.{Logs.{Logs}, Online.{IsThread, has_log}, declared.log_file.LogFile.{LogFile}}
use Rattle.rm_session.{specs.Fit.{IsFit, IsFitFile, IsFitLog, StandNow}, proofs.{Firsts.{fit-each}, Orders.{in-order, not-level1}}}

-- what is of a piece that fits stands there
placed-file : (l : Ledger) (opened : Bool) (k : ℕ) (d : Datafile) (x : File) → IsFitFile l opened (k + 1) d x → IsPlaced l.tree k d x
placed-file l opened k d x fit =
    let a = fit.piece in
    let valid = fit.fit.valid in
    let fits = fit.fit.fits in
    let is : IsPlaced l.tree k d (file_in a) = record {
      file = fits.file;
      blocks = full a valid (not-level1 a.kind fits.kind) ∙ fits.blocks;
      order = in-order a valid fits.kind;
      rows = λ j e inside. record { version = (valid.rows j e inside).version.0; content = (valid.rows j e inside).content };
      there = fits.there;
      checkpoint = valid.checkpoint.0;
      high = omega (arith, valid.high, fits.end);
    } in
    subst (IsPlaced l.tree k d) (sym fit.is) is

-- of an opened site it stands at the end of the current incarnation
now-file : (l : Ledger) (k : ℕ) (d : Datafile) (x : File) → IsFitFile l true (k + 1) d x → (x.inc ≡ l.base.current) × (x.checkpoint ≡ end_of l.tree l.base.current)
now-file l k d x fit =
    let at = fit.fit.fits.in_open refl in
    (ap (λ y. y.inc) fit.is ∙ at.0, ap (λ y. y.checkpoint) fit.is ∙ at.1)

-- where none is lost, that of no thread is
none-has_lost : (logs : Logs) (t : ℕ) → has_lost logs ≡ false → IsThread logs t → is_lost logs t ≡ false
none-has_lost logs t none there = elim (cases_Bool (is_lost logs t)) [
  | inr found ↦ found
  | inl lost ↦ absurd (false≢true (sym none ∙ lost-found logs t there lost))
]

module _ (s : State) (site : Saved) (rules : IsTypedCatalog s.catalog) (fit : IsFit (ledger s) site s.instance) where
  abbrev l : Ledger
  l = ledger s

  fit-at : (k : ℕ) (d : Datafile) (x : File) → slice_get l.files k ≡ Some d → slice_get s.instance.place k ≡ Some (Some x) → IsFitFile l site.head.opened (k + 1) d x
  fit-at k d x file held = fit.place k (Some x) held d file

  pub stand-now : site.head.opened ≡ true → StandNow s
  stand-now opened k d x file held = now-file l k d x (subst (λ b. IsFitFile l b (k + 1) d x) opened (fit-at k d x file held))

  modes : s.instance.is_open ≡ true → (site.head.opened ≡ true) × (not (has_lost s.instance.logs) ≡ true)
  modes mode = and_parts site.head.opened (not (has_lost s.instance.logs)) (sym fit.is_open ∙ mode)

  counts : (k : ℕ) (d : Datafile) (x : File) → slice_get l.files k ≡ Some d → slice_get s.instance.place k ≡ Some (Some x) → counted s x ≡ x
  counts k d x file held = elim (cases_Bool s.instance.is_open) [
    | inr closed ↦ counted-closed s x closed
    | inl mode ↦ let at = stand-now (modes mode).0 k d x file held in counted-open s x mode ∙ (λ i. standing x (sym at.0 i) (sym at.1 i))
  ]

  are-placed : ArePlaced s
  are-placed = record {
    many = fit.many;
    each = λ k d x file held. subst (IsPlaced (tree s) k d) (sym (counts k d x file held)) (placed-file l site.head.opened k d x (fit-at k d x file held));
  }

  abbrev parts : List (Option LogFile)
  parts = fit.logs.parts

  inc-is : s.instance.logs.inc ≡ inc_of_first l.base.current parts
  inc-is = ap (λ (x : Logs). x.inc) fit.logs.are

  -- what is so of the incarnation of each log that fits, and of the current one, is so of that of the logs
  inc-by : (P : ℕ → Type 0) → P l.base.current → ((t : ℕ) (a : LogFile) → IsFitLog l site.head.opened t a → P a.inc) → P s.instance.logs.inc
  inc-by P here each = subst P (sym inc-is) (first-is P l.base.current parts here (fit-each l site.head.opened (λ a. P a.inc) each parts fit.logs.fit))

  -- the online log of a thread that is not lost is the log that was kept
  is-online : (t : ℕ) → IsThread s.instance.logs t → is_lost s.instance.logs t ≡ false → IsOnline (tree s) (online s t)
  is-online t there found =
      let log = online-part l site.head.opened s.instance.logs parts (IsFitLog l site.head.opened) fit.logs.many fit.logs.are (λ t a is. is.fits) (λ k a at. fit.logs.fit k (Some a) at) t there found in
      subst (IsOnline (tree s)) (sym log.is) (record { valid = log.holds.valid; begun = log.holds.fits.first })

  are-online : AreOnline s
  are-online = record {
    dbid = ap (λ (x : Logs). x.dbid) fit.logs.are;
    there = inc-by (IsThere l.tree) rules.ledger.current (λ t a is. is.fits.there);
    four = ap (λ (x : Logs). length x.threads) fit.logs.are ∙ told-four l parts fit.logs.many;
    threads = λ t some most. coe 1 0 (i. has_log (fit.logs.are i) t ≡ is_enabled_in l (fit.logs.are i).inc (end_of l.tree (fit.logs.are i).inc) t) (told-has l parts fit.logs.many t some most);
    gone = subst (λ (x : Logs). All IsGone x.threads) (sym fit.logs.are) (told-gone l parts fit.logs.many);
    each = is-online;
  }

  is-open : s.instance.is_open ≡ true → IsOpen s
  is-open mode = record {
    inc = inc-by (λ n. n ≡ l.base.current) refl (λ t a is. is.fits.in_open (modes mode).0);
    found = λ t. none-has_lost s.instance.logs t (not-true (has_lost s.instance.logs) (modes mode).1);
    point = fit.point;
  }

  pub sound-fit : l.base.dbid < 2 ^ 32 → IsSound s
  sound-fit dbid = record {
    catalog = rules;
    dbid = dbid;
    place = are-placed;
    logs = are-online;
    damaged = damaged-none s fit.damaged;
    tracker = tracked-fresh s rules fit.tracker;
    in_open = is-open;
    point = λ at is. absurd (none-some at (sym fit.point ∙ is));
  }
