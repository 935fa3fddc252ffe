use Rattle.std.proofs.{Common.{◌∙◌, [], sym, subst, arith, rules}, lemmas.List.{append-nil}}
use Rattle.rm_catalog_bytes.{specs.{Fits.{EndingFits}, Spelling.{piece_ending}}, proofs.Pieces.{front_told, long, piece_found, piece_same}}
use Rattle.rm_catalog_bytes.proofs.reading.piece_of.Goals as goal
use Rattle.rm_base.proofs.Fronts.{parted}

pub returns-then-bytes-lt38-clause-only : goal.returns-then-bytes-lt38-clause-only
returns-then-bytes-lt38-clause-only c r fits id is = let all = long r c.args.bytes.now is in absurd (omega (arith, all))

pub returns-in_err-ending-clause-only : goal.returns-in_err-ending-clause-only
returns-in_err-ending-clause-only c r fits id is =
    let parts = parted 38 c.args.bytes.now c.split_at.result.0.now c.split_at.result.1.now c.split_at.ensures.front c.split_at.ensures.back in
    let told = front_told r _ c.split_at.result.0.now c.split_at.result.1.now (omega (arith, c.split_at.ensures.front_len)) parts is in
    let none = c.in_err-ending.ensures.only (piece_ending r) fits.ending told.1 in
    search rules

pub returns-in_default-clause-only : goal.returns-in_default-clause-only
returns-in_default-clause-only c r fits id is =
    let parts = parted 38 c.args.bytes.now c.split_at.result.0.now c.split_at.result.1.now c.split_at.ensures.front c.split_at.ensures.back in
    let told = front_told r _ c.split_at.result.0.now c.split_at.result.1.now (omega (arith, c.split_at.ensures.front_len)) parts is in
    absurd (c.in_default.ensures.none r [] fits.head (told.0 ∙ sym (append-nil _)))

pub returns-clause-found : goal.returns-clause-found
returns-clause-found c =
    let parts = parted 38 c.args.bytes.now c.split_at.result.0.now c.split_at.result.1.now c.split_at.ensures.front c.split_at.ensures.back in
    piece_found c.in-Some.entry _ _ _ _ _ (omega (arith, c.split_at.ensures.front_len)) parts c.in-Some.ensures.parts c.in-Some.ensures.len c.in_ok-ending.ensures.found c.in-Some.ensures.ending

pub returns-clause-only : goal.returns-clause-only
returns-clause-only c r fits id is =
    piece_same c.in-Some.entry r (record { head = c.in-Some.ensures.fits; ending = subst EndingFits (sym c.in-Some.ensures.ending) c.in_ok-ending.ensures.fits }) fits (c.in-Some.ensures.id ∙ sym id) (sym (returns-clause-found c) ∙ is)
