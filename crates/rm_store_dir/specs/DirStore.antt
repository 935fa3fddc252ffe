-- The objects among the files of a folder.
use Rattle.std.specs.{Prelude.{◌≡◌, ◌≢◌, ◌&&◌, if◌then◌else◌, ℕ, Bool, IsTrue, List, length, None, nat_le}, List.{list_all}}
use Rattle.rm_lang_token.specs.Tokens.{is_word_byte}
use Rattle.rm_base.specs.Store.{Held}
use Rattle.rm_store_dir.specs.declared.store.DirStore.{DirStore}

-- 1 to 64 letters, digits and _
abbrev pub is_object : List ℕ → Bool
is_object name = nat_le 1 (length name) && nat_le (length name) 64 && list_all is_word_byte name

-- the files whose names are objects'
abbrev pub objects_of : Held → Held
objects_of files name = if is_object name then files name else None

-- each other object has what it had
abbrev pub KeepsOthers : List ℕ → Held → Held → Type 0
KeepsOthers name before after = (n : List ℕ) → n ≢ name → IsTrue (is_object n) → after n ≡ before n

-- the folder of a store
abbrev pub folder_of : {F : Type 0} → DirStore F → F
folder_of s = s.folder

-- how often it has failed
abbrev pub faults_of : {F : Type 0} → DirStore F → ℕ
faults_of s = s.faults.times
