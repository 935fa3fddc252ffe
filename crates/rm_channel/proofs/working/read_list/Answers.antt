use Rattle.std.proofs.Common.{◌≡◌, ◌∙◌, ◌++◌, ℕ, All, IsSome, List, length, length-append, append_assoc, sym, ap, subst, rules}
use Rattle.std.proofs.lemmas.List.Elements.{All-drop, All-take}
use Rattle.rm_live.specs.{Parts.{row_at}, Passes.{Standing}}
use Rattle.rm_channel.{specs.{Jobs.{found, reads}, Made.{Did}}, proofs.{Spans.{found-append}, Steps.{worked-none, later-then}}}
use Rattle.rm_channel.proofs.Turns.{all-done, did-run, more-length, worked-blocks, worked-err}
use Rattle.rm_channel.proofs.working.read_list.Goals as goal

pub returns-in_err-rows-clause-worked : goal.returns-in_err-rows-clause-worked
returns-in_err-rows-clause-worked g c =
    worked-err c.args.pass.now c.args.pass.now.seen (reads c.args.file c.args.blocks.now) _ c.from_residual.result (search rules) (worked-none c.args.pass.now _)

pub read_run-requires-clause-there : goal.read_run-requires-clause-there
read_run-requires-clause-there g c =
    let same = ap (λ (s : Standing). s.opening.files) c.runs.invariant.0 in
    coe 1 0 (k. All (λ b. IsSome (row_at (same k) c.args.file b)) (c.split_at.ensures.front k))
    (All-take (λ b. IsSome (row_at c.args.pass.now.opening.files c.args.file b)) _ c.runs.left.now c.runs.invariant.4)

pub runs-preserved : goal.runs-preserved
runs-preserved g c =
    let i = c.runs.invariant in
    let done : List ℕ = i.3.0 in
    let left : List ℕ = c.runs.left.now in
    let run : List ℕ = c.split_at.result.0.now in
    let rest : List ℕ = c.split_at.result.1.now in
    let did = c.read_run.ensures.did in
    let parts : run ++ rest ≡ left = search rules in
    let there = sym (length-append done left) ∙ ap length i.3.1 in
    let here = sym (length-append run rest) ∙ ap length parts in
    let long = more-length c.runs.pass c.read_run.new.pass.seen (found c.args.file run) _ c.runs.rows.items c.read_run.new.rows.items did in (
      later-then c.args.pass.now c.runs.pass c.read_run.new.pass i.0 c.read_run.ensures.stays,
      search rules,
      search rules,
      (
        done ++ run,
        append_assoc done run rest ∙ ap (λ (l : List ℕ). done ++ l) parts ∙ i.3.1,
        did-run (found c.args.file) (found-append c.args.file) c.args.pass.now c.runs.pass c.read_run.new.pass.seen _ done run c.runs.rows.items c.read_run.new.rows.items i.0 i.3.2 (search rules) did,
      ),
      subst (All (λ b. IsSome (row_at c.args.pass.now.opening.files c.args.file b))) (sym c.split_at.ensures.back)
          (All-drop (λ b. IsSome (row_at c.args.pass.now.opening.files c.args.file b)) _ left i.4),
    )

pub returns-clause-worked : goal.returns-clause-worked
returns-clause-worked g c =
    let i = c.runs.invariant in
    let all : i.3.0 ≡ c.args.blocks.now = all-done i.3.0 c.runs.left.now c.args.blocks.now (search rules) i.3.1 in
    worked-blocks c.args.pass.now c.runs.pass.seen c.args.file c.args.blocks.now c.runs.rows.items
    (subst (λ (bs : List ℕ). Did c.args.pass.now c.runs.pass.seen (found c.args.file bs c.runs.rows.items)) all i.3.2) (search rules)
