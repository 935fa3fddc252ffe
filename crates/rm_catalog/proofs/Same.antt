-- What `==` decides of the records that hold a list.
use Rattle.std.specs.{Bool.{Decides}, Cmp.{booleans_Decides, Lexicographic.{pointwise, pointwise_decides}}}
use Rattle.std.proofs.{Common.{◌≡◌, ℕ, List, nat_eq, rules}, lemmas.Bool.Decides.{Decides-and, Decides-eqb, Decides-like}}
use Rattle.std.proofs.lemmas.Slice.Eq.{bytes_eq-Decides}
use Rattle.rm_base.specs.declared.kinds.{Kind.{Kind}, Status.{Status}}
use Rattle.rm_base.specs.contracts.kinds.KindPartialEq.TheImpl as kind
use Rattle.rm_base.specs.contracts.kinds.StatusPartialEq.TheImpl as status
use Rattle.rm_catalog.specs.declared.record.{SetPart.{SetPart}, PieceEntry.{PieceEntry}, SetEntry.{SetEntry}}
use Rattle.rm_catalog.specs.contracts.record.SetPartPartialEq.TheImpl as part
use Rattle.rm_catalog.specs.contracts.record.PieceEntryPartialEq.TheImpl as piece
use Rattle.rm_catalog.specs.contracts.record.SetEntryPartialEq.TheImpl as set

text_decides : (a b : List ℕ) → Decides (pointwise nat_eq a b) (a ≡ b)
text_decides a b = bytes_eq-Decides a b

parts_decides : (a b : List SetPart) → Decides (pointwise part.ghosts.eq a b) (a ≡ b)
parts_decides a b = pointwise_decides (λ x y. search rules) a b

kind_decides : (a b : Kind) → Decides (kind.ghosts.eq a b) (a ≡ b)
kind_decides a b = search rules

status_decides : (a b : Status) → Decides (status.ghosts.eq a b) (a ≡ b)
status_decides a b = search rules

piece_fields : (a b : PieceEntry) → Decides (piece.ghosts.eq a b) ((a.id ≡ b.id) × ((a.copy ≡ b.copy) × ((a.kind ≡ b.kind) × ((a.inc ≡ b.inc) × ((a.file ≡ b.file) × ((a.from ≡ b.from) × ((a.checkpoint ≡ b.checkpoint) × ((a.high ≡ b.high) × ((a.rows ≡ b.rows) × ((a.size ≡ b.size) × ((a.sha ≡ b.sha) × ((a.status ≡ b.status) × ((a.keep ≡ b.keep) × ((a.tag ≡ b.tag) × (a.moment ≡ b.moment)))))))))))))))
piece_fields a b = Decides-and _ _ (Decides-eqb a.id b.id) (Decides-and _ _ (booleans_Decides a.copy b.copy) (Decides-and _ _ (kind_decides a.kind b.kind) (Decides-and _ _ (Decides-eqb a.inc b.inc) (Decides-and _ _ (Decides-eqb a.file b.file) (Decides-and _ _ (Decides-eqb a.from b.from) (Decides-and _ _ (Decides-eqb a.checkpoint b.checkpoint) (Decides-and _ _ (Decides-eqb a.high b.high) (Decides-and _ _ (Decides-eqb a.rows b.rows) (Decides-and _ _ (Decides-eqb a.size b.size) (Decides-and _ _ (text_decides a.sha b.sha) (Decides-and _ _ (status_decides a.status b.status) (Decides-and _ _ (booleans_Decides a.keep b.keep) (Decides-and _ _ (text_decides a.tag b.tag) (Decides-eqb a.moment b.moment))))))))))))))

piece_of : (a b : PieceEntry) → (a.id ≡ b.id) × ((a.copy ≡ b.copy) × ((a.kind ≡ b.kind) × ((a.inc ≡ b.inc) × ((a.file ≡ b.file) × ((a.from ≡ b.from) × ((a.checkpoint ≡ b.checkpoint) × ((a.high ≡ b.high) × ((a.rows ≡ b.rows) × ((a.size ≡ b.size) × ((a.sha ≡ b.sha) × ((a.status ≡ b.status) × ((a.keep ≡ b.keep) × ((a.tag ≡ b.tag) × (a.moment ≡ b.moment)))))))))))))) → a ≡ b
piece_of a b (p0, (p1, (p2, (p3, (p4, (p5, (p6, (p7, (p8, (p9, (p10, (p11, (p12, (p13, p14)))))))))))))) = λ i. record { id = p0 i; copy = p1 i; kind = p2 i; inc = p3 i; file = p4 i; from = p5 i; checkpoint = p6 i; high = p7 i; rows = p8 i; size = p9 i; sha = p10 i; status = p11 i; keep = p12 i; tag = p13 i; moment = p14 i }

pub piece_decides : (a b : PieceEntry) → Decides (piece.ghosts.eq a b) (a ≡ b)
piece_decides a b = Decides-like _ (piece_of a b) (λ e. ((λ i. (e i).id), ((λ i. (e i).copy), ((λ i. (e i).kind), ((λ i. (e i).inc), ((λ i. (e i).file), ((λ i. (e i).from), ((λ i. (e i).checkpoint), ((λ i. (e i).high), ((λ i. (e i).rows), ((λ i. (e i).size), ((λ i. (e i).sha), ((λ i. (e i).status), ((λ i. (e i).keep), ((λ i. (e i).tag), (λ i. (e i).moment)))))))))))))))) (piece_fields a b)

set_fields : (a b : SetEntry) → Decides (set.ghosts.eq a b) ((a.id ≡ b.id) × ((a.inc ≡ b.inc) × ((a.checkpoint ≡ b.checkpoint) × ((a.parts ≡ b.parts) × ((a.size ≡ b.size) × ((a.sha ≡ b.sha) × ((a.status ≡ b.status) × ((a.keep ≡ b.keep) × ((a.tag ≡ b.tag) × (a.moment ≡ b.moment))))))))))
set_fields a b = Decides-and _ _ (Decides-eqb a.id b.id) (Decides-and _ _ (Decides-eqb a.inc b.inc) (Decides-and _ _ (Decides-eqb a.checkpoint b.checkpoint) (Decides-and _ _ (parts_decides a.parts b.parts) (Decides-and _ _ (Decides-eqb a.size b.size) (Decides-and _ _ (text_decides a.sha b.sha) (Decides-and _ _ (status_decides a.status b.status) (Decides-and _ _ (booleans_Decides a.keep b.keep) (Decides-and _ _ (text_decides a.tag b.tag) (Decides-eqb a.moment b.moment)))))))))

set_of : (a b : SetEntry) → (a.id ≡ b.id) × ((a.inc ≡ b.inc) × ((a.checkpoint ≡ b.checkpoint) × ((a.parts ≡ b.parts) × ((a.size ≡ b.size) × ((a.sha ≡ b.sha) × ((a.status ≡ b.status) × ((a.keep ≡ b.keep) × ((a.tag ≡ b.tag) × (a.moment ≡ b.moment))))))))) → a ≡ b
set_of a b (p0, (p1, (p2, (p3, (p4, (p5, (p6, (p7, (p8, p9))))))))) = λ i. record { id = p0 i; inc = p1 i; checkpoint = p2 i; parts = p3 i; size = p4 i; sha = p5 i; status = p6 i; keep = p7 i; tag = p8 i; moment = p9 i }

pub set_decides : (a b : SetEntry) → Decides (set.ghosts.eq a b) (a ≡ b)
set_decides a b = Decides-like _ (set_of a b) (λ e. ((λ i. (e i).id), ((λ i. (e i).inc), ((λ i. (e i).checkpoint), ((λ i. (e i).parts), ((λ i. (e i).size), ((λ i. (e i).sha), ((λ i. (e i).status), ((λ i. (e i).keep), ((λ i. (e i).tag), (λ i. (e i).moment))))))))))) (set_fields a b)
