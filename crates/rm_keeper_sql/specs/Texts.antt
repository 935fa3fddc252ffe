-- The four texts that a keeper runs, and what it gives to each.
use Rattle.std.specs.Prelude.{ℕ, pos, codes, List, [], ◌∷◌}
use Rattle.sqlite_value.specs.{Order.{Row}, declared.value.Value.TheVariants.{Int, Blob}}
use Rattle.rm_catalog.specs.{Keys.{key_of}, declared.record.Edit.{Edit, TheVariants.{Put, Drop}}}
use Rattle.rm_catalog_bytes.specs.Spelling.{body_of}

-- makes the table where it is missing
abbrev pub create_text : List ℕ
create_text = codes "CREATE TABLE IF NOT EXISTS record (number INTEGER NOT NULL, kind INTEGER NOT NULL, id INTEGER NOT NULL, body BLOB NOT NULL, PRIMARY KEY (number, kind, id)) STRICT"

-- puts the bytes of a record under its key
abbrev pub upsert_text : List ℕ
upsert_text = codes "INSERT INTO record (number, kind, id, body) VALUES (?1, ?2, ?3, ?4) ON CONFLICT (number, kind, id) DO UPDATE SET body = excluded.body"

-- takes away what stands under a key
abbrev pub delete_text : List ℕ
delete_text = codes "DELETE FROM record WHERE number = ?1 AND kind = ?2 AND id = ?3"

-- the rows of one number
abbrev pub select_text : List ℕ
select_text = codes "SELECT kind, id, body FROM record WHERE number = ?1 ORDER BY kind, id"

-- the text of an edit
abbrev pub text_of : Edit → List ℕ
text_of (Put r) = upsert_text
text_of (Drop k) = delete_text

-- what is given to it: the number of the database, the key, and the bytes of a record
abbrev pub params_of : ℕ → Edit → Row
params_of n (Put r) = Int (pos n) ∷ Int (pos (key_of r).kind) ∷ Int (pos (key_of r).id) ∷ Blob (body_of r) ∷ []
params_of n (Drop k) = Int (pos n) ∷ Int (pos k.kind) ∷ Int (pos k.id) ∷ []
