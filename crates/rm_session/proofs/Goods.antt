-- What a good part is, from what the store has of it and what fits.
use Rattle.std.proofs.{Common.{◌≡◌, ◌∙◌, ℕ, Option, Some, None, sym, ap, subst}, lemmas.Option.{same_Some}}
use Rattle.rm_base.specs.Store.{Held}
use Rattle.rm_catalog.specs.declared.record.PartEntry.{PartEntry}
use Rattle.rm_history.specs.declared.world.Datafile.{Datafile}
use Rattle.rm_catalog_typed.specs.{Ledger.{Ledger}, TypedCatalog.{Saved}}
use Rattle.rm_machine.specs.{Loading.{IsTheOne}, Saved.{FitsInPlace, FitsOnline, HasPart, IsGoodFile, IsGoodLog, file_part, thread_part}}
use Rattle.rm_piece.specs.declared.piece.Piece.{Piece}
use Rattle.rm_piece.specs.Spelling as piece_format
use Rattle.rm_piece.proofs.Fitting as pieces
use Rattle.rm_redo.specs.declared.log_file.LogFile.{LogFile}
use Rattle.rm_redo.specs.LogFormat as log_format
use Rattle.rm_redo.proofs.LogFitting as logs
use Rattle.rm_session.specs.Fit.{HasLogPart, HasPiecePart, IsWhereFits, IsWhereLogFits}

-- the store has one piece of a part at most, and one log
one-piece : (h : Held) (p : PartEntry) (a b : Piece) → HasPiecePart h p a → HasPiecePart h p b → a ≡ b
one-piece h p a b first second =
    pieces.spelling_same a b first.valid second.valid (same_Some (piece_format.spelling a) (piece_format.spelling b) (sym first.has.there ∙ second.has.there))

one-log : (h : Held) (p : PartEntry) (a b : LogFile) → HasLogPart h p a → HasLogPart h p b → a ≡ b
one-log h p a b first second =
    logs.spelling_same a b first.valid second.valid (same_Some (log_format.spelling a) (log_format.spelling b) (sym first.has.there ∙ second.has.there))

-- it has what is good
has-good : (h : Held) (l : Ledger) (site : Saved) (f : ℕ) (d : Datafile) (p : PartEntry) (x : Piece) → file_part site f ≡ Some p → IsGoodFile h l site f d x → HasPiecePart h p x
has-good h l site f d p x is good =
    record { has = subst (λ q. HasPart h q (piece_format.spelling x)) (same_Some good.part p (sym good.is ∙ is)) good.has; valid = good.valid }

has-good-log : (h : Held) (l : Ledger) (site : Saved) (t : ℕ) (p : PartEntry) (x : LogFile) → thread_part site t ≡ Some p → IsGoodLog h l site t x → HasLogPart h p x
has-good-log h l site t p x is good =
    record { has = subst (λ q. HasPart h q (log_format.spelling x)) (same_Some good.part p (sym good.is ∙ is)) good.has; valid = good.valid }

-- one part is good as one piece, or as one log
pub file-one : (held : Held) (l : Ledger) (site : Saved) (f : ℕ) (d : Datafile) (a b : Piece) → IsGoodFile held l site f d a → IsGoodFile held l site f d b → a ≡ b
file-one held l site f d a b first second = one-piece held first.part a b (record { has = first.has; valid = first.valid }) (has-good held l site f d first.part b first.is second)

pub log-one : (held : Held) (l : Ledger) (site : Saved) (t : ℕ) (a b : LogFile) → IsGoodLog held l site t a → IsGoodLog held l site t b → a ≡ b
log-one held l site t a b first second = one-log held first.part a b (record { has = first.has; valid = first.valid }) (has-good-log held l site t first.part b first.is second)

-- what it has is good where it fits, and nothing else is
good-by : {X : Type 0} (Has Fits Good : X → Type 0) → ((a b : X) → Has a → Has b → a ≡ b) → ((a : X) → Good a → Has a × Fits a) → ((a : X) → Has a → Fits a → Good a)
    → (o found : Option X) → IsTheOne Has o → IsTheOne (λ a. (o ≡ Some a) × Fits a) found → IsTheOne Good found
good-by Has Fits Good one parts make None None has fits = λ x good. has x (parts x good).0
good-by Has Fits Good one parts make (Some b) None has fits = λ x good. let both = parts x good in fits x (ap Some (one b x has both.0), both.1)
good-by Has Fits Good one parts make None (Some a) has fits = absurd (let clash : None ≡ Some a = fits.0 in cc)
good-by Has Fits Good one parts make (Some b) (Some a) has fits = make a (subst Has (same_Some b a fits.0) has) fits.1

pub good-file : (h : Held) (l : Ledger) (site : Saved) (f : ℕ) (d : Datafile) (p : PartEntry) (piece found : Option Piece) → file_part site f ≡ Some p → IsTheOne (HasPiecePart h p) piece → IsWhereFits l site.head.opened f d piece found → IsTheOne (IsGoodFile h l site f d) found
good-file h l site f d p piece found is =
    good-by (HasPiecePart h p) (FitsInPlace l site.head.opened f d) (IsGoodFile h l site f d) (one-piece h p) (λ a good. (has-good h l site f d p a is good, good.fits))
    (λ a has fits. record { part = p; is = is; has = has.has; valid = has.valid; fits = fits }) piece found

pub good-log : (h : Held) (l : Ledger) (site : Saved) (t : ℕ) (p : PartEntry) (log found : Option LogFile) → thread_part site t ≡ Some p → IsTheOne (HasLogPart h p) log → IsWhereLogFits l site.head.opened t log found → IsTheOne (IsGoodLog h l site t) found
good-log h l site t p log found is =
    good-by (HasLogPart h p) (FitsOnline l site.head.opened t) (IsGoodLog h l site t) (one-log h p) (λ a good. (has-good-log h l site t p a is good, good.fits))
    (λ a has fits. record { part = p; is = is; has = has.has; valid = has.valid; fits = fits }) log found
