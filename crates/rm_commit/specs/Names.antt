-- What stands under names, after changes of some of them.
use Rattle.std.specs.{Prelude.{◌≡◌, ℕ, ◌||◌, Bool, false, List, [], ◌∷◌, Option, Some, None, if◌then◌else◌}, Str.{bytes_eq}}
use Rattle.rm_base.specs.Store.{Held}
use Rattle.rm_commit.specs.declared.commit.Object.{Object}

-- what stands under a name after all of these, where `old` stood before: each leaves `value x` under `name x`
abbrev pub after_all : {X : Type 0} → (X → List ℕ) → (X → Option (List ℕ)) → List X → List ℕ → Option (List ℕ) → Option (List ℕ)
after_all name value [] n old = old
after_all name value (x ∷ xs) n old = after_all name value xs n (if bytes_eq n (name x) then value x else old)

-- one of these has the name
abbrev pub is_named : {X : Type 0} → (X → List ℕ) → List X → List ℕ → Bool
is_named name [] n = false
is_named name (x ∷ xs) n = bytes_eq n (name x) || is_named name xs n

-- all of these were done
abbrev pub HasAll : {X : Type 0} → (X → List ℕ) → (X → Option (List ℕ)) → List X → Held → Held → Type 0
HasAll name value xs before after = (n : List ℕ) → after n ≡ after_all name value xs n (before n)

-- only names of these have something else
abbrev pub SameBeyond : {X : Type 0} → (X → List ℕ) → List X → Held → Held → Type 0
SameBeyond name xs before after = (n : List ℕ) → is_named name xs n ≡ false → after n ≡ before n

abbrev pub name_of : Object → List ℕ
name_of x = x.name

abbrev pub bytes_of : Object → Option (List ℕ)
bytes_of x = Some x.bytes

abbrev pub itself : List ℕ → List ℕ
itself n = n

abbrev pub nothing : List ℕ → Option (List ℕ)
nothing n = None

-- the objects stand under their names
abbrev pub HasPuts : List Object → Held → Held → Type 0
HasPuts objects before after = HasAll name_of bytes_of objects before after

-- only names of these objects have something else
abbrev pub SameBeyondPuts : List Object → Held → Held → Type 0
SameBeyondPuts objects before after = SameBeyond name_of objects before after

-- nothing stands under these names
abbrev pub HasRemoves : List (List ℕ) → Held → Held → Type 0
HasRemoves names before after = HasAll itself nothing names before after

-- only these names have something else
abbrev pub SameBeyondRemoves : List (List ℕ) → Held → Held → Type 0
SameBeyondRemoves names before after = SameBeyond itself names before after
