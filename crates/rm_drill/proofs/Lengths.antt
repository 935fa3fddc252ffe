-- How long the parts of a script are at most.
use Rattle.std.specs.{Prelude.{if◌then◌else◌}, Fmt.{decimal}}
use Rattle.std.proofs.Common.{◌≤◌, ◌<◌, ◌+◌, ◌*◌, ◌%◌, ◌++◌, ◌==◌, [], ℕ, zero, suc, Bool, true, false, List, codes, length, arith}
use Rattle.std.proofs.lemmas.{Fmt.{length-decimal-le}, List.{length-append}}
use Rattle.rm_drill.specs.Script.{closing_text, draw_of, line_of, next_number, number_after_rounds, number_after_writes, opening_text, round_end, round_text, rounds_text, script_text, statement_of, write_text, writes_text}

-- two texts, one after the other
joined : (m n : ℕ) (xs ys : List ℕ) → length xs ≤ m → length ys ≤ n → length (xs ++ ys) ≤ m + n
joined m n xs ys h k = omega (arith, length-append xs ys, h, k)

digits : (n : ℕ) → n < 2000 → length (decimal n) ≤ 4
digits n h = length-decimal-le 4 n (omega arith) (omega (arith, h)) (omega (arith, h))

statement-short : (a b r k : ℕ) → r < 2000 → k < 2000 → length (statement_of a b r k) ≤ 70
unfolding statement_of
statement-short a b r k low few =
    joined 13 57 (codes "WRITE THREAD ") _ (omega arith)
    (joined 4 53 (decimal (1 + k % 2)) _ (digits (1 + k % 2) (omega arith))
    (joined 10 43 (codes " DATAFILE ") _ (omega arith)
    (joined 4 39 (decimal (1 + a % 4)) _ (digits (1 + a % 4) (omega arith))
    (joined 7 32 (codes " BLOCK ") _ (omega arith)
    (joined 4 28 (decimal (b % 1024)) _ (digits (b % 1024) (omega arith))
    (joined 9 19 (codes " VALUE 'r") _ (omega arith)
    (joined 4 15 (decimal r) _ (digits r low)
    (joined 1 14 (codes "k") _ (omega arith)
    (joined 4 10 (decimal k) (codes "';") (digits k few) (omega arith))))))))))

writes-short : (x r n : ℕ) → r < 2000 → n ≤ 1000 → length (writes_text x r n) ≤ 100 * n
unfolding writes_text write_text
writes-short x r zero low few = omega arith
writes-short x r (suc n) low few =
    let y : ℕ = number_after_writes x n in
    let one = statement-short (draw_of (next_number y)) (draw_of (next_number (next_number y))) r n low (omega (arith, few)) in
    let more = joined 1 70 (codes " ") (write_text y r n) (omega arith) one in
    let all = joined (100 * n) 71 (writes_text x r n) (codes " " ++ write_text y r n) (writes-short x r n low (omega (arith, few))) more in
    omega (arith, all)

end-short : (r : ℕ) → length (round_end r) ≤ 100
unfolding round_end
end-short r = joined 10 90 (line_of (codes " };")) (if r % 5 == 0 then line_of (codes "ALTER SYSTEM ARCHIVE LOG CURRENT;") else []) (omega arith) (go (r % 5 == 0))
  where
    go : (b : Bool) → length (if b then line_of (codes "ALTER SYSTEM ARCHIVE LOG CURRENT;") else []) ≤ 90
    go true = omega arith
    go false = omega arith

round-short : (x r : ℕ) → r < 2000 → length (round_text x r) ≤ 100200
unfolding round_text
round-short x r low =
    joined 100 100100 (codes "BACKUP INCREMENTAL LEVEL 1 DATABASE DURING {") (writes_text x r 1000 ++ round_end r) (omega arith)
    (joined 100000 100 (writes_text x r 1000) (round_end r) (writes-short x r 1000 low (omega arith)) (end-short r))

rounds-short : (x n : ℕ) → n < 2000 → length (rounds_text x n) ≤ 100200 * n
unfolding rounds_text
rounds-short x zero low = omega arith
rounds-short x (suc n) low =
    let y : ℕ = number_after_rounds x n in
    let all = joined (100200 * n) 100200 (rounds_text x n) (round_text y (suc n)) (rounds-short x n (omega (arith, low))) (round-short y (suc n) low) in
    omega (arith, all)

opening-short : length opening_text ≤ 1000
unfolding opening_text
opening-short = omega arith

closing-short : length closing_text ≤ 1000
unfolding closing_text
closing-short = omega arith

pub script-short : (x : ℕ) → length (script_text x) ≤ 4194304
unfolding script_text
script-short x =
    let all =
    joined 1000 2005000 opening_text (rounds_text x 20 ++ closing_text) opening-short
    (joined 2004000 1000 (rounds_text x 20) closing_text (rounds-short x 20 (omega arith)) closing-short) in
    omega (arith, all)
