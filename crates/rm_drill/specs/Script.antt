-- The script of the drill, as its number makes it.
use Rattle.std.specs.{Prelude.{ℕ, zero, suc, ◌+◌, ◌*◌, ◌/◌, ◌%◌, ◌^◌, ◌==◌, List, [], ◌∷◌, ◌++◌, codes, if◌then◌else◌}, Fmt.{decimal}}

-- a draw leads from one number to the next
unfoldable pub next_number : ℕ → ℕ
next_number x = (x * 6364136223846793005 + 1442695040888963407) % 2 ^ 64

-- what a draw gives that leads to this number
abbrev pub draw_of : ℕ → ℕ
draw_of x = x / 2 ^ 33

-- write k of round r, where the draws give a and b
unfoldable pub statement_of : ℕ → ℕ → ℕ → ℕ → List ℕ
statement_of a b r k =
    codes "WRITE THREAD " ++ (decimal (1 + k % 2) ++ (codes " DATAFILE " ++ (decimal (1 + a % 4) ++ (codes " BLOCK " ++ (decimal (b % 1024) ++ (codes " VALUE 'r" ++ (decimal r ++ (codes "k" ++ (decimal k ++ codes "';")))))))))

-- write k of round r, before whose two draws the number is x
unfoldable pub write_text : ℕ → ℕ → ℕ → List ℕ
write_text x r k = statement_of (draw_of (next_number x)) (draw_of (next_number (next_number x))) r k

-- the number after n writes
unfoldable pub number_after_writes : ℕ → ℕ → ℕ
number_after_writes x zero = x
number_after_writes x (suc n) = next_number (next_number (number_after_writes x n))

-- the first n writes of round r, each with a space before it
unfoldable pub writes_text : ℕ → ℕ → ℕ → List ℕ
writes_text x r zero = []
writes_text x r (suc n) = writes_text x r n ++ (codes " " ++ write_text (number_after_writes x n) r n)

-- a statement and its line feed
abbrev pub line_of : List ℕ → List ℕ
line_of text = text ++ 10 ∷ []

-- behind the writes of round r; each fifth round has the logs archived
unfoldable pub round_end : ℕ → List ℕ
round_end r = line_of (codes " };") ++ (if r % 5 == 0 then line_of (codes "ALTER SYSTEM ARCHIVE LOG CURRENT;") else [])

-- round r: a backup during 1,000 writes
unfoldable pub round_text : ℕ → ℕ → List ℕ
round_text x r = codes "BACKUP INCREMENTAL LEVEL 1 DATABASE DURING {" ++ (writes_text x r 1000 ++ round_end r)

-- the number after n rounds
unfoldable pub number_after_rounds : ℕ → ℕ → ℕ
number_after_rounds x zero = x
number_after_rounds x (suc n) = number_after_writes (number_after_rounds x n) 1000

-- the first n rounds
unfoldable pub rounds_text : ℕ → ℕ → List ℕ
rounds_text x zero = []
rounds_text x (suc n) = rounds_text x n ++ round_text (number_after_rounds x n) (suc n)

-- four datafiles of 1,024 blocks, backed up at level 0
unfoldable pub opening_text : List ℕ
opening_text =
    line_of (codes "CREATE DATABASE THREADS 2;")
    ++ (line_of (codes "CREATE DATAFILE BLOCKS 1024;")
    ++ (line_of (codes "CREATE DATAFILE BLOCKS 1024;")
    ++ (line_of (codes "CREATE DATAFILE BLOCKS 1024;")
    ++ (line_of (codes "CREATE DATAFILE BLOCKS 1024;")
    ++ (line_of (codes "ALTER DATABASE ENABLE BLOCK CHANGE TRACKING;")
    ++ line_of (codes "BACKUP INCREMENTAL LEVEL 0 DATABASE;"))))))

-- all is restored, recovered and looked at
unfoldable pub closing_text : List ℕ
closing_text =
    line_of (codes "STARTUP FORCE MOUNT;")
    ++ (line_of (codes "RESTORE DATABASE;")
    ++ (line_of (codes "RECOVER DATABASE;")
    ++ (line_of (codes "ALTER DATABASE OPEN;")
    ++ line_of (codes "VALIDATE ALL;"))))

-- the whole script: 20 rounds between both
unfoldable pub script_text : ℕ → List ℕ
script_text x = opening_text ++ (rounds_text x 20 ++ closing_text)
