-- What is looked at of archived logs, one after the other.
use Rattle.std.specs.Prelude.{◌↔◌, IfSome, Result, Ok, Err}
use Rattle.std.proofs.Common.{◌≡◌, ◌⊎◌, ◌∙◌, ◌+◌, ◌<◌, ◌≤◌, ℕ, List, [], ◌∷◌, ◌++◌, ◌&&◌, length, length-append, get_or, take, filter, map, true, false, Option, Some, None, AllPairs, Contains, refl, ap, sym, subst, arith, inl, inr}
use Rattle.std.proofs.{Math.Seq.{take-length}, lemmas.Bool.{and_parts}}
use Rattle.std.proofs.lemmas.List.{get_or_default, get_or-take, length-take, map-append, take_more}
use Rattle.std.proofs.lemmas.List.Elements.{All-nil, All-push, Contains-append_cases, Contains-append_left, Contains-append_right, filter-append}
use Rattle.rm_base.specs.{Store.{Held}, declared.kinds.{Bad.{Bad}, Status.{Status, TheVariants.{Available, Expired, Unavailable}}}}
use Rattle.rm_base.proofs.{Lists.{filter_from, filter_to, map_from, map_to, only-in}, Members.{in-front, none-in}}
use Rattle.rm_catalog.specs.declared.record.{LogEntry.{LogEntry}, Record.{Record, TheVariants.{Log, Piece, Set}}}
use Rattle.rm_evidence.specs.{Available.{HasLogObject, IsSkippedAmong, a_log, a_piece, a_set}, Database.{Database, database_in}}
use Rattle.rm_evidence.specs.{Gathered.{ById, IsLogOf}, Taking.{Extends, IsTold}, Names.{log_name}, Objects.{HasLogFields, IsLogObject}}
use Rattle.rm_evidence.proofs.{Extending.{extends-none, extends-one, extends-then}, Objects.{bad-one, not-both, one-log, told-one}}
use Rattle.rm_redo.specs.{LogFormat.{IsLogFile}, declared.log_file.LogFile.{LogFile}}
use Rattle.rm_machine.specs.{BackupLogs.{archived_in}, Validate.{is_available}}
use Rattle.rm_step_backup.specs.{Logs.{Adds, AreRecorded, IsAll, IsRecorded, KeepsRecords, no_database}, declared.looking.Looked.{Looked}}

abbrev pub nothing : Looked
nothing = record { found = []; skipped = [] }

-- Which of them are looked at

available : (st : Status) → is_available st ≡ true → st ≡ Available
available Available is = refl
available Unavailable is = absurd (let clash : false ≡ true = is in cc)
available Expired is = absurd (let clash : false ≡ true = is in cc)

pub counted : (e : LogEntry) → (e.archived && is_available e.status) ≡ true → (e.archived ≡ true) × (e.status ≡ Available)
counted e is = let both = and_parts e.archived (is_available e.status) is in (both.0, available e.status both.1)

pub not-counted : (e : LogEntry) → (e.archived && is_available e.status) ≡ false → e.archived ≡ true → e.status ≡ Available → ⊥
not-counted e is archived status =
    let both : (e.archived && is_available e.status) ≡ true = ap (λ b. b && is_available e.status) archived ∙ ap is_available status in
    absurd (let clash : true ≡ false = sym both ∙ is in cc)

-- The records of archived logs

archived-append : (xs ys : List LogEntry) → archived_in (xs ++ ys) ≡ archived_in xs ++ archived_in ys
archived-append xs ys = ap (λ (es : List LogEntry). map Log es) (filter-append (λ (e : LogEntry). e.archived) xs ys) ∙ map-append Log (filter (λ e. e.archived) xs) (filter (λ e. e.archived) ys)

in-one : (e l : LogEntry) → Contains (archived_in (e ∷ [])) (Log l) → (e ≡ l) × (e.archived ≡ true)
in-one e l has =
    let row = map_from Log (filter (λ x. x.archived) (e ∷ [])) (Log l) has in
    let kept = filter_from (λ (x : LogEntry). x.archived) (e ∷ []) row.item row.held in
    let same : row.item ≡ l = (let one = row.is in cc) in
    let first = only-in e row.item kept.0 in
    (first ∙ same, ap (λ (x : LogEntry). x.archived) first ∙ kept.1)

one-in : (e : LogEntry) → e.archived ≡ true → Contains (archived_in (e ∷ [])) (Log e)
one-in e is = map_to Log (filter (λ x. x.archived) (e ∷ [])) e (filter_to (λ (x : LogEntry). x.archived) (e ∷ []) e (in-front e []) is)

no-piece : (xs : List LogEntry) (r : Record) → Contains (archived_in xs) r → (l : LogEntry) × Contains xs l × (r ≡ Log l)
no-piece xs r has =
    let row = map_from Log (filter (λ x. x.archived) xs) r has in
    (row.item, (filter_from (λ (x : LogEntry). x.archived) xs row.item row.held).0, sym row.is)

module _ (held : Held) where
  -- of two lists it is so of the one or the other
  log-split : (rs qs : List Record) (id : ℕ) (a : LogFile) → (IsLogOf held rs id a ⊎ IsLogOf held qs id a) ↔ IsLogOf held (rs ++ qs) id a
  log-split rs qs id a = (join, part)
    where
      join : IsLogOf held rs id a ⊎ IsLogOf held qs id a → IsLogOf held (rs ++ qs) id a
      join (inl p) = (p.0, Contains-append_left rs qs (Log p.0) p.1, p.2, p.3)
      join (inr p) = (p.0, Contains-append_right rs qs (Log p.0) p.1, p.2, p.3)

      part : IsLogOf held (rs ++ qs) id a → IsLogOf held rs id a ⊎ IsLogOf held qs id a
      part p = elim (Contains-append_cases rs qs (Log p.0) p.1) [
        | inl has ↦ inl (p.0, has, p.2, p.3)
        | inr has ↦ inr (p.0, has, p.2, p.3)
      ]

  skip-part : (rs qs : List Record) (id : ℕ) (bad : Bad) → IsSkippedAmong held no_database (rs ++ qs) id bad → IsSkippedAmong held no_database rs id bad ⊎ IsSkippedAmong held no_database qs id bad
  skip-part rs qs _ _ (a_log l bad has status is) = elim (Contains-append_cases rs qs (Log l) has) [
    | inl here ↦ inl (a_log l bad here status is)
    | inr here ↦ inr (a_log l bad here status is)
  ]
  skip-part rs qs _ _ (a_piece p bad has status is) = elim (Contains-append_cases rs qs (Piece p) has) [
    | inl here ↦ inl (a_piece p bad here status is)
    | inr here ↦ inr (a_piece p bad here status is)
  ]
  skip-part rs qs _ _ (a_set e bad has status is) = elim (Contains-append_cases rs qs (Set e) has) [
    | inl here ↦ inl (a_set e bad here status is)
    | inr here ↦ inr (a_set e bad here status is)
  ]

  skip-join : (rs qs : List Record) (id : ℕ) (bad : Bad) → IsSkippedAmong held no_database rs id bad ⊎ IsSkippedAmong held no_database qs id bad → IsSkippedAmong held no_database (rs ++ qs) id bad
  skip-join rs qs _ _ (inl (a_log l bad has status is)) = a_log l bad (Contains-append_left rs qs (Log l) has) status is
  skip-join rs qs _ _ (inl (a_piece p bad has status is)) = a_piece p bad (Contains-append_left rs qs (Piece p) has) status is
  skip-join rs qs _ _ (inl (a_set e bad has status is)) = a_set e bad (Contains-append_left rs qs (Set e) has) status is
  skip-join rs qs _ _ (inr (a_log l bad has status is)) = a_log l bad (Contains-append_right rs qs (Log l) has) status is
  skip-join rs qs _ _ (inr (a_piece p bad has status is)) = a_piece p bad (Contains-append_right rs qs (Piece p) has) status is
  skip-join rs qs _ _ (inr (a_set e bad has status is)) = a_set e bad (Contains-append_right rs qs (Set e) has) status is

  skip-split : (rs qs : List Record) (id : ℕ) (bad : Bad) → (IsSkippedAmong held no_database rs id bad ⊎ IsSkippedAmong held no_database qs id bad) ↔ IsSkippedAmong held no_database (rs ++ qs) id bad
  skip-split rs qs id bad = (skip-join rs qs id bad, skip-part rs qs id bad)

  -- the record of what is at hand, and of what is skipped
  log-at : (xs : List LogEntry) (id : ℕ) (a : LogFile) → IsLogOf held (archived_in xs) id a → (l : LogEntry) × Contains xs l × (l.id ≡ id)
  log-at xs id a is =
      let o = no-piece xs (Log is.0) is.1 in
      let same : is.0 ≡ o.0 = (let one : Log is.0 ≡ Log o.0 = o.2 in cc) in
      (o.0, o.1, subst (λ (l : LogEntry). l.id ≡ id) same is.2)

  skip-of : (xs : List LogEntry) (id : ℕ) (bad : Bad) → IsSkippedAmong held no_database (archived_in xs) id bad → (l : LogEntry) × Contains xs l × (l.id ≡ id)
  skip-of xs _ _ (a_log l bad has status is) = let o = no-piece xs (Log l) has in (o.0, o.1, (let one : Log l ≡ Log o.0 = o.2 in cc))
  skip-of xs _ _ (a_piece p bad has status is) = absurd (let o = no-piece xs (Piece p) has in let clash : Piece p ≡ Log o.0 = o.2 in cc)
  skip-of xs _ _ (a_set e bad has status is) = absurd (let o = no-piece xs (Set e) has in let clash : Set e ≡ Log o.0 = o.2 in cc)

  -- of logs alone it does not matter which database they are of
  skip-any : (one other : Database) (xs : List LogEntry) (id : ℕ) (bad : Bad) → IsSkippedAmong held one (archived_in xs) id bad → IsSkippedAmong held other (archived_in xs) id bad
  skip-any one other xs _ _ (a_log l bad has status is) = a_log l bad has status is
  skip-any one other xs _ _ (a_piece p bad has status is) = absurd (let o = no-piece xs (Piece p) has in let clash : Piece p ≡ Log o.0 = o.2 in cc)
  skip-any one other xs _ _ (a_set e bad has status is) = absurd (let o = no-piece xs (Set e) has in let clash : Set e ≡ Log o.0 = o.2 in cc)

  -- what is told of the one log
  module _ (e : LogEntry) where
    -- an archived log of this id counts as available, and this is told of it
    record OfOne (id : ℕ) (what : Result LogFile Bad) : Type 0 where
      pub number : e.id ≡ id
      pub archived : e.archived ≡ true
      pub status : e.status ≡ Available
      pub told : IsTold (IsLogObject e) (held (log_name e.id)) what

    log-of : (id : ℕ) (a : LogFile) → IsLogOf held (archived_in (e ∷ [])) id a → OfOne id (Ok a)
    log-of id a is =
        let one = in-one e is.0 is.1 in
        let has : HasLogObject held e a = subst (λ (l : LogEntry). HasLogObject held l a) (sym one.0) is.3 in
        record { number = ap (λ (l : LogEntry). l.id) one.0 ∙ is.2; archived = one.1; status = has.status; told = (has.bytes, has.there, has.object) }

    skipped-of : (id : ℕ) (bad : Bad) → IsSkippedAmong held no_database (archived_in (e ∷ [])) id bad → OfOne id (Err bad)
    skipped-of _ _ (a_log l bad has status is) =
        let one = in-one e l has in
        record {
          number = ap (λ (x : LogEntry). x.id) one.0;
          archived = one.1;
          status = ap (λ (x : LogEntry). x.status) one.0 ∙ status;
          told = subst (λ (x : LogEntry). IsTold (IsLogObject x) (held (log_name x.id)) (Err bad)) (sym one.0) is;
        }
    skipped-of _ _ (a_piece p bad has status is) = absurd (let o = no-piece (e ∷ []) (Piece p) has in let clash : Piece p ≡ Log o.0 = o.2 in cc)
    skipped-of _ _ (a_set d bad has status is) = absurd (let o = no-piece (e ∷ []) (Set d) has in let clash : Set d ≡ Log o.0 = o.2 in cc)

    abbrev Told : Result LogFile Bad → Type 0
    Told what = IsTold (IsLogObject e) (held (log_name e.id)) what

    pub adds-none : (old new : Looked) → new ≡ old → (e.archived ≡ true → e.status ≡ Available → ⊥) → Adds held (e ∷ []) old new
    adds-none old new same not = record {
      found = extends-none ById (IsLogOf held (archived_in (e ∷ []))) old.found new.found (ap (λ (x : Looked). x.found) same) (λ id a is. let o = log-of id a is in not o.archived o.status);
      skipped = extends-none ById (IsSkippedAmong held no_database (archived_in (e ∷ []))) old.skipped new.skipped (ap (λ (x : Looked). x.skipped) same) (λ id bad is. let o = skipped-of id bad is in not o.archived o.status);
    }

    pub adds-found : (a : LogFile) (old new : Looked) → e.archived ≡ true → e.status ≡ Available → Told (Ok a) → new.found ≡ old.found ++ (e.id, a) ∷ [] → new.skipped ≡ old.skipped → Adds held (e ∷ []) old new
    adds-found a old new archived status told found skipped = record {
      found = extends-one ById (IsLogOf held (archived_in (e ∷ []))) old.found new.found e.id a found (e, one-in e archived, refl, record { status = status; bytes = told.0; there = told.1; object = told.2 })
          (λ j b is. let o = log-of j b is in (o.number, told-one (IsLogObject e) (held (log_name e.id)) a b (one-log e) told o.told));
      skipped = extends-none ById (IsSkippedAmong held no_database (archived_in (e ∷ []))) old.skipped new.skipped skipped (λ id bad is. not-both (IsLogObject e) (held (log_name e.id)) a bad told (skipped-of id bad is).told);
    }

    pub adds-bad : (bad : Bad) (old new : Looked) → e.archived ≡ true → e.status ≡ Available → Told (Err bad) → new.found ≡ old.found → new.skipped ≡ old.skipped ++ (e.id, bad) ∷ [] → Adds held (e ∷ []) old new
    adds-bad bad old new archived status told found skipped = record {
      found = extends-none ById (IsLogOf held (archived_in (e ∷ []))) old.found new.found found (λ id a is. not-both (IsLogObject e) (held (log_name e.id)) a bad (log-of id a is).told told);
      skipped = extends-one ById (IsSkippedAmong held no_database (archived_in (e ∷ []))) old.skipped new.skipped e.id bad skipped (a_log e bad (one-in e archived) status told)
          (λ j b is. let o = skipped-of j b is in (o.number, bad-one (IsLogObject e) (held (log_name e.id)) bad b told o.told));
    }

  -- one log more, of a higher id than those before
  adds-then : (xs : List LogEntry) (e : LogEntry) (first old new : Looked) → ((x : LogEntry) → Contains xs x → x.id < e.id) → Adds held xs first old → Adds held (e ∷ []) old new → Adds held (xs ++ e ∷ []) first new
  adds-then xs e first old new lower before one =
      let all = archived-append xs (e ∷ []) in
      record {
        found = subst (λ (rs : List Record). Extends LogFile ById first.found (IsLogOf held rs) new.found) (sym all)
            (extends-then ById (IsLogOf held (archived_in xs)) (IsLogOf held (archived_in (e ∷ []))) (IsLogOf held (archived_in xs ++ archived_in (e ∷ []))) first.found old.found new.found before.found one.found
            (λ i j x y p q. let o = log-at xs i x p in omega (arith, lower o.0 o.1, o.2, (log-of e j y q).number)) (log-split (archived_in xs) (archived_in (e ∷ []))));
        skipped = subst (λ (rs : List Record). Extends Bad ById first.skipped (IsSkippedAmong held no_database rs) new.skipped) (sym all)
            (extends-then ById (IsSkippedAmong held no_database (archived_in xs)) (IsSkippedAmong held no_database (archived_in (e ∷ []))) (IsSkippedAmong held no_database (archived_in xs ++ archived_in (e ∷ []))) first.skipped old.skipped new.skipped before.skipped one.skipped
            (λ i j x y p q. let o = skip-of xs i x p in omega (arith, lower o.0 o.1, o.2, (skipped-of e j y q).number)) (skip-split (archived_in xs) (archived_in (e ∷ []))));
      }

-- what stands for an item past the end
abbrev pub no_log : LogEntry
no_log = record { id = 0; archived = false; inc = 0; thread = 0; sequence = 0; first = 0; next = 0; size = 0; sha = []; status = Available; keep = false }

-- an item before has a lower id
earlier : (xs : List LogEntry) (i : ℕ) (e x : LogEntry) → AllPairs (λ l k. l.id < k.id) xs → i < length xs → e ≡ get_or xs i e → Contains (take i xs) x → x.id < e.id
earlier xs i e x up inside is has =
    let before : has.0 < i = omega (arith, has.1, length-take i xs) in
    let here : get_or xs has.0 x ≡ x = sym (get_or-take i xs has.0 x before) ∙ has.2 in
    let there = is ∙ get_or_default xs i e x inside in
    omega (arith, up has.0 i x before inside, ap (λ (l : LogEntry). l.id) here, ap (λ (l : LogEntry). l.id) there)

next-by : (o p : Option Held) (xs : List LogEntry) (i : ℕ) (e : LogEntry) (old new : Looked) → p ≡ o → AllPairs (λ l k. l.id < k.id) xs → i < length xs → e ≡ get_or xs i e
    → IfSome o (λ h. Adds h (take i xs) nothing old) → IfSome p (λ h. Adds h (e ∷ []) old new) → IfSome o (λ h. Adds h (take (i + 1) xs) nothing new)
next-by o p xs i e old new same up inside is before one = step o before (subst (λ (q : Option Held). IfSome q (λ h. Adds h (e ∷ []) old new)) same one)
  where
    more : take (i + 1) xs ≡ take i xs ++ e ∷ []
    more = take_more xs i e inside ∙ ap (λ (x : LogEntry). take i xs ++ x ∷ []) (sym is)

    step : (o : Option Held) → IfSome o (λ h. Adds h (take i xs) nothing old) → IfSome o (λ h. Adds h (e ∷ []) old new) → IfSome o (λ h. Adds h (take (i + 1) xs) nothing new)
    step None before one = tt
    step (Some h) before one = subst (λ (ys : List LogEntry). Adds h ys nothing new) (sym more) (adds-then h (take i xs) e nothing old new (λ x has. earlier xs i e x up inside is has) before one)

-- one log more, of a store that tells what it holds, or not
pub next-look : (o p : Option Held) (xs : List LogEntry) (i : ℕ) (d : LogEntry) (old new : Looked) → p ≡ o → AllPairs (λ l k. l.id < k.id) xs → i < length xs
    → IfSome o (λ h. Adds h (take i xs) nothing old) → IfSome p (λ h. Adds h (get_or xs i d ∷ []) old new) → IfSome o (λ h. Adds h (take (i + 1) xs) nothing new)
next-look o p xs i d old new same up inside before one = next-by o p xs i (get_or xs i d) old new same up inside (get_or_default xs i d (get_or xs i d) inside) before one

-- nothing is looked at yet
pub first-look : (o : Option Held) (looked : Looked) → looked.found ≡ [] → looked.skipped ≡ [] → IfSome o (λ h. Adds h [] nothing looked)
first-look None looked found skipped = tt
first-look (Some h) looked found skipped = record {
  found = extends-none ById (IsLogOf h []) [] looked.found found (λ id a p. none-in (Log p.0) p.1);
  skipped = extends-none ById (IsSkippedAmong h no_database []) [] looked.skipped skipped (λ id bad p. none-in-skip id bad p);
}
  where
    none-in-skip : (id : ℕ) (bad : Bad) → IsSkippedAmong h no_database [] id bad → ⊥
    none-in-skip _ _ (a_log l bad has status is) = none-in (Log l) has
    none-in-skip _ _ (a_piece p bad has status is) = none-in (Piece p) has
    none-in-skip _ _ (a_set e bad has status is) = none-in (Set e) has

-- all are looked at
pub whole-look : (h : Held) (xs : List LogEntry) (i : ℕ) (looked : Looked) → i ≤ length xs → length xs ≤ i → Adds h (take i xs) nothing looked → IsAll h xs looked
whole-look h xs i looked within past adds =
    let ended : i ≡ length xs = omega arith in
    let all : take i xs ≡ xs = ap (λ (n : ℕ). take n xs) ended ∙ take-length xs in
    let is : Adds h xs nothing looked = subst (λ (ys : List LogEntry). Adds h ys nothing looked) all adds in
    record {
      found = record { rest = is.found.rest; list = is.found.list; ascends = is.found.related; exact = is.found.exact };
      skipped =
          let base = database_in (archived_in xs) in
          record {
            rest = is.skipped.rest;
            list = is.skipped.list;
            ascends = is.skipped.related;
            exact = λ id bad. ((λ has. skip-any h no_database base xs id bad ((is.skipped.exact id bad).0 has)), (λ told. (is.skipped.exact id bad).1 (skip-any h base no_database xs id bad told)));
          };
    }

-- Which logs are recorded, whatever the store tells

pub keeps-more : (e : LogEntry) (a : LogFile) (old new : Looked) → new.found ≡ old.found ++ (e.id, a) ∷ [] → IsLogFile a → HasLogFields e a → KeepsRecords e old new
keeps-more e a old new same valid fields logs n has are =
    let x : ℕ × LogFile = (e.id, a) in
    subst (AreRecorded logs (n + 1)) (sym same) (record {
      each = All-push (λ (y : ℕ × LogFile). IsRecorded logs y.1) old.found x are.each (e, has, valid, fields);
      few = omega (arith, are.few, length-append old.found (x ∷ []));
    })

pub none-recorded : (logs : List LogEntry) (found : List (ℕ × LogFile)) → found ≡ [] → AreRecorded logs 0 found
none-recorded logs found is = subst (AreRecorded logs 0) (sym is) (record { each = All-nil (λ (y : ℕ × LogFile). IsRecorded logs y.1); few = omega arith })
