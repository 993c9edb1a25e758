-- What is written in one way is read in one way: two shapes or heads whose lines begin the same bytes are one, and so is what stands behind them.
use Rattle.std.proofs.Common.{◌≡◌, ℕ, ◌^◌, ◌<◌, List, [], ◌++◌, codes, refl, sym, ◌∙◌, arith, append_assoc}
use Rattle.std.proofs.lemmas.List.{append_cancel_left}
use Rattle.text_pieces.specs.Pieces.{newline, space}
use Rattle.text_pieces.specs.Field.{field, IsFrom}
use Rattle.text_pieces.specs.Parts.{source_part}
use Rattle.text_pieces.proofs.Forms.{IsOne, field-one, source-one}
use Rattle.run_replay.specs.declared.trace.TraceShape.{TraceShape}
use Rattle.run_replay.specs.Document.{IsTraceShape, Head, IsHead, title, shape_line, head_text}
use Rattle.run_replay.specs.Lines.{two_fields}

pub two-one : (name : List ℕ) (most a b c d : ℕ) (r q : List ℕ) → most < 2 ^ 32 → IsFrom 0 15 a → IsFrom 0 15 c → IsFrom 0 most b → IsFrom 0 most d
    → two_fields name a b ++ r ≡ two_fields name c d ++ q → (a ≡ c) × (b ≡ d) × (r ≡ q)
unfolding two_fields
two-one name most a b c d r q small fa fc fb fd is =
    let parts : field name space a ++ (field [] newline b ++ r) ≡ field name space c ++ (field [] newline d ++ q) =
    sym (append_assoc (field name space a) (field [] newline b) r) ∙ is ∙ append_assoc (field name space c) (field [] newline d) q in
    let first = field-one name 32 0 15 refl (omega arith) a c (field [] newline b ++ r) (field [] newline d ++ q) fa fc parts in
    let second = field-one [] 10 0 most refl small b d r q fb fd first.1 in
    (first.0, second.0, second.1)

-- ---- the head

pub shape-parts : (s : TraceShape) (r : List ℕ)
    → shape_line s ++ r ≡ field (codes "banks ") space s.banks ++ (field (codes "sets ") space s.sets ++ (field (codes "ways ") space s.ways ++ (field (codes "fuel ") newline s.fuel ++ r)))
unfolding shape_line
shape-parts s r = simp append_assoc

pub shape-one : IsOne IsTraceShape shape_line
shape-one s t r q fs ft is =
    let parts = sym (shape-parts s r) ∙ is ∙ shape-parts t q in
    let a = field-one (codes "banks ") 32 1 16 refl (omega arith) s.banks t.banks _ _ fs.banks ft.banks parts in
    let b = field-one (codes "sets ") 32 1 256 refl (omega arith) s.sets t.sets _ _ fs.sets ft.sets a.1 in
    let c = field-one (codes "ways ") 32 1 16 refl (omega arith) s.ways t.ways _ _ fs.ways ft.ways b.1 in
    let d = field-one (codes "fuel ") 10 1 32768 refl (omega arith) s.fuel t.fuel r q fs.fuel ft.fuel c.1 in
    (λ i. record { banks = a.0 i; sets = b.0 i; ways = c.0 i; fuel = d.0 i }, d.1)

pub head-parts : (h : Head) (r : List ℕ) → head_text h ++ r ≡ title ++ (shape_line h.shape ++ (source_part h.text ++ (field (codes "events ") newline h.count ++ r)))
unfolding head_text
head-parts h r = simp append_assoc

pub count-from : (h : Head) → IsHead h → IsFrom 0 25169664 h.count
count-from h is = record { low = omega arith; high = is.count }

pub head-one : IsOne IsHead head_text
head-one g h r q fg fh is =
    let parts = sym (head-parts g r) ∙ is ∙ head-parts h q in
    let behind = append_cancel_left title _ _ parts in
    let a = shape-one g.shape h.shape _ _ fg.shape fh.shape behind in
    let b = source-one g.text h.text _ _ fg.text fh.text a.1 in
    let c = field-one (codes "events ") 10 0 25169664 refl (omega arith) g.count h.count r q (count-from g fg) (count-from h fh) b.1 in
    (λ i. record { shape = a.0 i; text = b.0 i; count = c.0 i }, c.1)
