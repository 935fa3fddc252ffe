use Rattle.std.proofs.Common.{◌≡◌, ◌+◌, ℕ, IsSome, List, ap, get_or, length, length-take, take, sym, subst, rules, arith}
use Rattle.std.proofs.lemmas.List.{take_more, take_all, Elements.{All-get_or}}
use Rattle.rm_blocks.specs.File.{File}
use Rattle.rm_live.specs.{Parts.{row_at}, Passes.{Standing}}
use Rattle.rm_channel.{specs.{Jobs.{found}, Made.{DidMore}}, proofs.{Spans.{found-append}, Steps.{later-then}, Turns.{more-done}}}
use Rattle.rm_channel.proofs.pacing.read_run.Goals as goal

pub read_block-requires-clause-there : goal.read_block-requires-clause-there
read_block-requires-clause-there g c =
    let same = ap (λ (s : Standing). s.opening.files) c.loop-block.invariant.0 in
    subst (λ (files : List File). IsSome (row_at files c.args.file (get_or c.args.blocks.now c.loop-block.block-index 0))) (sym same)
    (All-get_or (λ b. IsSome (row_at c.args.pass.now.opening.files c.args.file b)) c.args.blocks.now c.loop-block.block-index 0 c.loop-block-test.true c.requires.there)

pub loop-block-preserved : goal.loop-block-preserved
loop-block-preserved g c =
    let i = c.loop-block.invariant in
    let n : ℕ = c.loop-block.block-index in
    let bs : List ℕ = c.args.blocks.now in (
      later-then c.args.pass.now c.loop-block.pass c.read_block.new.pass i.0 c.read_block.ensures.stays,
      search rules,
      search rules,
      subst (λ (xs : List ℕ). DidMore c.args.pass.now c.read_block.new.pass.seen (found c.args.file xs) (n + 1) c.args.rows.now.items c.push_reserved.new.self.items) (sym (take_more bs n 0 c.loop-block-test.true))
          (more-done (found c.args.file) (found-append c.args.file) c.args.pass.now c.loop-block.pass c.read_block.new.pass.seen n (take n bs) (get_or bs n 0) c.args.rows.now.items c.loop-block.rows.items c.push_reserved.new.self.items c.read_block.result
          (let e = length-take n bs in search rules) i.0 i.3 c.read_block.ensures.did c.push_reserved.ensures.items),
    )

pub returns-clause-did : goal.returns-clause-did
returns-clause-did g c =
    let n : ℕ = c.loop-block.block-index in
    let all : take n c.args.blocks.now ≡ c.args.blocks.now = take_all n c.args.blocks.now (omega arith) in
    let long : n ≡ length c.args.blocks.now = omega arith in
    coe 0 1 (i. DidMore c.args.pass.now c.loop-block.pass.seen (found c.args.file (all i)) (long i) c.args.rows.now.items c.loop-block.rows.items) c.loop-block.invariant.3
