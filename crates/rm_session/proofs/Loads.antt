-- What is loaded by a catalog: of its saved site, or else nothing.
use Rattle.std.proofs.Common.{◌≡◌, ◌<◌, ◌+◌, ◌^◌, ◌∙◌, ◌&&◌, not, ℕ, zero, suc, List, [], Option, Some, None, IfSome, true, false, refl, sym, ap, subst, arith, length, replicate, get_or, slice_get}
use Rattle.std.proofs.lemmas.{List.{length-replicate}, Option.{same_Some, slice_get-get_or, slice_get_within}}
use Rattle.rm_base.specs.Store.{Held}
use Rattle.rm_blocks.specs.File.{File}
use Rattle.rm_catalog_typed.specs.{Ledger.{Ledger}, Facts.{IsTypedCatalog}, TypedCatalog.{Saved}}
use Rattle.rm_machine.specs.{Loading.{IsLoadedBy, lost_instance, online_of}, Sound.{IsSound}, State.{has_lost, ledger}}
use Rattle.rm_machine.specs.{Tracked.{first_tracker}, declared.state.{Instance.{Instance}, State.{State}}}
use Rattle.rm_redo.specs.declared.log_file.LogFile.{LogFile}
use Rattle.rm_session.specs.Fit.{AllAt, IsFit, IsFitBy, IsFitFile, IsFitLog, IsHad, IsHadBy, IsLoadedAt, IsLogAt, IsPointBy, StandNow, with_point}
use Rattle.rm_session.proofs.Sounds.{sound-fit, stand-now}

-- nothing is at any place of a list that is lost
none-at : {X : Type 0} (n k : ℕ) (x : Option X) → slice_get (replicate n None) k ≡ Some x → x ≡ None
none-at zero k x is = absurd (cc)
none-at (suc n) zero x is = sym (same_Some None x is)
none-at (suc n) (suc k) x is = none-at n k x is

-- a site without a part
abbrev nothing : Saved
nothing = record { parts = []; head = record { opened = false; inc = 0; scn = 0 } }

lost-fits : (l : Ledger) → IsFit l nothing (lost_instance l)
lost-fits l = record {
  many = length-replicate (length l.files) None;
  place = λ k x is d file. subst (λ (x : Option File). IfSome x (IsFitFile l false (k + 1) d)) (sym (none-at (length l.files) k x is)) tt;
  logs = record {
    parts = replicate 4 None;
    many = refl;
    fit = λ k x is. subst (λ (x : Option LogFile). IfSome x (IsFitLog l false (k + 1))) (sym (none-at 4 k x is)) tt;
    are = refl;
  };
  is_open = refl;
  point = refl;
  damaged = refl;
  tracker = refl;
}

fit-lost : (l : Ledger) (i : Instance) → i ≡ lost_instance l → IsFit l nothing i
fit-lost l i is = subst (IsFit l nothing) (sym is) (lost-fits l)

-- it is sound, whatever the store holds
pub sound-by : (s : State) (o : Option Saved) → IsTypedCatalog s.catalog → (ledger s).base.dbid < 2 ^ 32 → IsFitBy (ledger s) o s.instance → IsSound s
sound-by s None rules dbid fit = sound-fit s nothing rules (fit-lost (ledger s) s.instance fit) dbid
sound-by s (Some site) rules dbid fit = sound-fit s site rules fit dbid

pub stand-by : (s : State) (o : Option Saved) → IsTypedCatalog s.catalog → IsFitBy (ledger s) o s.instance → IfSome o (λ site. site.head.opened ≡ true → StandNow s)
stand-by s None rules fit = tt
stand-by s (Some site) rules fit = λ opened. stand-now s site rules fit opened

-- with its point it is what is to be loaded
pub loaded-by : (h : Held) (s : State) (o : Option Saved) (p : Option ℕ) → IsHadBy h (ledger s) o s.instance → IsPointBy s o p → IsLoadedBy h (with_point s p) o
loaded-by h s None p had told =
    ap (λ q. record s.instance { point = q }) told ∙ ap (λ (i : Instance). record i { point = None }) had
loaded-by h s (Some site) p had told =
    let l = ledger s in
    let place = s.instance.place in
    let many : length place ≡ length l.files = had.many in
    record {
      many = many;
      place = λ k d file. let inside = slice_get_within l.files k d file in had.place k (get_or place k None) (slice_get-get_or place k None (omega (arith, inside, many))) d file;
      logs = had.logs;
      is_open = had.is_open;
      point = told;
      damaged = had.damaged;
      tracker = had.tracker;
    }

-- what is loaded of a saved site, part by part
pub had-of : (o : Option Held) (l : Ledger) (site : Saved) (i : Instance) (parts : List (Option LogFile)) → length i.place ≡ length l.files → IfSome o (λ h. AllAt (IsLoadedAt h l site) i.place) → length parts ≡ 4
    → IfSome o (λ h. AllAt (IsLogAt h l site) parts) → i.logs ≡ online_of l parts → i.is_open ≡ (site.head.opened && not (has_lost i.logs)) → i.damaged ≡ [] → i.tracker ≡ first_tracker i.is_open l → IfSome o (λ h. IsHad h l site i)
had-of None l site i parts many place threads logs online mode none tracker = tt
had-of (Some h) l site i parts many place threads logs online mode none tracker = record {
  many = many;
  place = place;
  logs = record { parts = parts; many = threads; good = logs; are = online };
  is_open = mode;
  damaged = none;
  tracker = tracker;
}
