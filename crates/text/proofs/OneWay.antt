-- Reading a string of bytes ends in one way only.
use Rattle.std.proofs.Common.{◌≡◌, ℕ, zero, suc, ◌+◌, List, sym, ap, ◌∙◌}
use Rattle.chart.specs.Arena.{Arena}
use Rattle.chart.specs.Refusals.{Outcome, refused}
use Rattle.text.specs.Lines.{Line}
use Rattle.text.specs.Reading.{Due, count_due, vertex_due, move_due, next, Finished, Begins, drawn_by, Reads, whole, wrong, declined, onward}
use Rattle.text.proofs.Fields.{numbers_of, one_spelling}
use Rattle.text.proofs.Steps.{none_some, some_same, done_same, done_refused, none_due, due_word, due_line, is_due, begun}

-- nothing begins where all is read
finished_begins : (due : Due) (bytes : List ℕ) (line : Line) (rest : List ℕ) (then : Due) → Finished due bytes → ¬ Begins due bytes line rest then
finished_begins count_due bytes line rest then f b = f
finished_begins (vertex_due k) bytes line rest then f b = f
finished_begins (move_due zero low) bytes line rest then f b = none_some (sym (none_due low line) ∙ b.expected)
finished_begins (move_due (suc k) low) bytes line rest then f b = f

-- one line that is due begins the bytes
one_line : (due : Due) (bytes : List ℕ) (line other : Line) (rest remains : List ℕ) (then now : Due) → Begins due bytes line rest then → Begins due bytes other remains now → (line ≡ other) × (rest ≡ remains) × (then ≡ now)
one_line due bytes line other rest remains then now a b =
    let d = is_due due line then a.expected in
    let e = is_due due other now b.expected in
    let p = one_spelling (due_word due) bytes (numbers_of line) (numbers_of other) rest remains (d.many ∙ sym e.many) (begun due bytes line rest then a) (begun due bytes other remains now b) in
    let same : line ≡ other = d.is ∙ ap (due_line due) p.0 ∙ sym e.is in
    (same, p.1, some_same (sym a.expected ∙ ap (next due) same ∙ b.expected))

refused_same : {A : Type 0} (n p m q : ℕ) → ◌≡◌ {A = Outcome A} (refused n p) (refused m q) → n ≡ m
refused_same n p m q e = cc

pub one_way : (one other : Outcome Arena) (a : Arena) (due : Due) (k : ℕ) (bytes : List ℕ) → Reads one a due k bytes → Reads other a due k bytes → one ≡ other
one_way one other a due k bytes (whole f e) (whole g h) = e ∙ sym h
one_way one other a due k bytes (whole f e) (wrong nf none h) = absurd (nf f)
one_way one other a due k bytes (whole f e) (declined line rest then n p b d h) = absurd (finished_begins due bytes line rest then f b)
one_way one other a due k bytes (whole f e) (onward line rest then b x d r) = absurd (finished_begins due bytes line rest then f x)
one_way one other a due k bytes (wrong nf none e) (whole g h) = absurd (nf g)
one_way one other a due k bytes (wrong nf none e) (wrong nf' none' h) = e ∙ sym h
one_way one other a due k bytes (wrong nf none e) (declined line rest then n p b d h) = absurd (none line rest then b)
one_way one other a due k bytes (wrong nf none e) (onward line rest then b x d r) = absurd (none line rest then x)
one_way one other a due k bytes (declined line rest then n p b d e) (whole g h) = absurd (finished_begins due bytes line rest then g b)
one_way one other a due k bytes (declined line rest then n p b d e) (wrong nf none h) = absurd (none line rest then b)
one_way one other a due k bytes (declined line rest then n p b d e) (declined line' rest' then' m q b' d' h) =
    let s = one_line due bytes line line' rest rest' then then' b b' in
    e ∙ ap (λ x. refused x k) (refused_same n p m q (sym d ∙ ap (drawn_by a) s.0 ∙ d')) ∙ sym h
one_way one other a due k bytes (declined line rest then n p b d e) (onward line' rest' then' c b' d' r) =
    let s = one_line due bytes line line' rest rest' then then' b b' in
    absurd (done_refused (sym d' ∙ sym (ap (drawn_by a) s.0) ∙ d))
one_way one other a due k bytes (onward line rest then c b d r) (whole g h) = absurd (finished_begins due bytes line rest then g b)
one_way one other a due k bytes (onward line rest then c b d r) (wrong nf none h) = absurd (none line rest then b)
one_way one other a due k bytes (onward line rest then c b d r) (declined line' rest' then' n p b' d' h) =
    let s = one_line due bytes line line' rest rest' then then' b b' in
    absurd (done_refused (sym d ∙ ap (drawn_by a) s.0 ∙ d'))
one_way one other a due k bytes (onward line rest then c b d r) (onward line' rest' then' c' b' d' r') =
    let s = one_line due bytes line line' rest rest' then then' b b' in
    let same : c ≡ c' = done_same (sym d ∙ ap (drawn_by a) s.0 ∙ d') in
    one_way one other c then (k + 1) rest r (rw (sym same, sym s.1, sym s.2) at r')
