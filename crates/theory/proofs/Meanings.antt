-- Everything follows the meaning: names and the kind of a chart have no part in it.
use Rattle.chart.specs.Arena.{Arena}
use Rattle.game.specs.Held.{Held}
use Rattle.std.proofs.Common.{◌≡◌, ℕ, sym, subst}

-- Two charts of any two kinds with the same meaning, whatever their names, have the same held
-- vertices.
pub same_held : {C D : Type 0} (meaning : C → Arena) (meaning' : D → Arena) (c : C) (d : D) → meaning c ≡ meaning' d →
    (v : ℕ) → (Held (meaning c) v → Held (meaning' d) v) × (Held (meaning' d) v → Held (meaning c) v)
same_held meaning meaning' c d e v = ((λ h. subst (λ a. Held a v) e h), λ h. subst (λ a. Held a v) (sym e) h)
