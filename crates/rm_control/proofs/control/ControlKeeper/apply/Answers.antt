use Rattle.std.proofs.Common.{sym, subst}
use Rattle.rm_control.proofs.Following.{IsReady, followed_added, ready_sent, ready_still}
use Rattle.rm_control.proofs.control.ControlKeeper.apply.Goals.{then-self+in_ok-send, else-self}
use Rattle.rm_control.proofs.control.ControlKeeper.apply.Goals as goal

pub invariant_of-self-2 : goal.invariant_of-self-2
invariant_of-self-2 g c =
    let now = c.if-self.self-inside in
    let was = c.self.inside in
    let ready : IsReady (g.N.Keeper.kept now.near) (g.F.Keeper.kept now.far) now.waiting.items now.lists now.keep = elim c.if-self.branch [
      | then-self+in_ok-send w ↦ subst (λ self. IsReady (g.N.Keeper.kept self.near) (g.F.Keeper.kept self.far) self.waiting.items self.lists self.keep) (sym w.self-inside-is)
          (ready_sent (g.N.Keeper.kept was.near) (g.F.Keeper.kept was.far) (g.F.Keeper.kept w.send.new.far) was.waiting.items c.taken.new.waiting.items w.send.new.waiting.items was.lists was.keep
          c.self.invariant c.taken.ensures.same w.in_ok-send.ensures.sent w.in_ok-send.ensures.none)
      | else-self w ↦ subst (λ self. IsReady (g.N.Keeper.kept self.near) (g.F.Keeper.kept self.far) self.waiting.items self.lists self.keep) (sym w.self-inside-is)
          (ready_still (g.N.Keeper.kept was.near) (g.F.Keeper.kept was.far) was.waiting.items c.taken.new.waiting.items was.lists was.keep c.self.invariant c.taken.ensures.same w.if-self.false)
    ] in
    followed_added (g.N.Keeper.kept now.near) (g.N.Keeper.kept c.apply.new.self) (g.F.Keeper.kept now.far) now.waiting.items c.add.new.waiting.items c.args.edits.now c.in_ok-equal.equal.items
    now.lists now.keep ready c.in_ok-apply.ensures.ok c.add.ensures c.in_ok-equal.ensures.copies
