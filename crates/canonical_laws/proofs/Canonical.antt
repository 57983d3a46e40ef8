-- One text for one problem: what is written is read back, two accepted texts are the same problem exactly when their canonical texts are the same bytes, and exactly the
-- strict texts are canonical. Assumes nothing.
use Rattle.std.specs.Prelude.{ℕ, ◌≡◌, ◌↔◌, List, length}
use Rattle.std.proofs.Common.{arith, zero-add, sym, ◌∙◌, ap}
use Rattle.std.proofs.Math.Path.{subst}
use Rattle.problem.specs.declared.Problem.{Problem}
use Rattle.problem_text.specs.declared.Read.{Read}
use Rattle.text.specs.Forms.{Form, loose}
use Rattle.canonical_laws.specs.Strict.{strict}
use Rattle.problem_text.specs.Reader.{read_in}
use Rattle.canonical_laws.specs.Pieces.{flat, pieces, print, tidied}
use Rattle.canonical_laws.specs.Positions.{here, whole}
use Rattle.canonical_laws.specs.FormLaws.{Lawful, loose_lawful, strict_lawful}
use Rattle.canonical_laws.specs.Spans.{Spans, Fit, spans_of, fit_of, strict_text}
use Rattle.canonical_laws.specs.TextLaws.{reads, stands}
use Rattle.canonical_laws.specs.PrintLaws.{print_apart}
use Rattle.canonical_laws.proofs.PrintLaws.{print_short}
use Rattle.canonical_laws.specs.Texts.{Writable, Accepted, problem, canonical, answer}
use Rattle.common.specs.Refusals.{Fate, going}

abbrev put : Fate → Problem → Read
put x p = record { fate = x; problem = p }

module _ (f : Form) (L : Lawful f) where
  spanned : (p : Problem) → Fit (pieces p) → Spans f (print p) 0 (pieces p) (length (print p))
  unfolding print
  spanned p g = subst (λ (k : ℕ). Spans f (print p) 0 (pieces p) k) (zero-add (length (print p))) (spans_of f L (print p) (pieces p) 0 (print_apart p) g (here (print p)))

  -- what was written is read as the problem, with nothing past its counts
  pub written : (p : Problem) → Writable p → Fit (pieces p) → read_in f (print p) ≡ record { fate = going; problem = tidied p }
  written p n g = reads f L (print p) p (print_short p n) (omega (arith, n.0.0, n.1)) n.1 (spanned p g)

  -- what an accepted text is read as is written and read again as itself
  pub rewritten : (t : List ℕ) → Accepted f t → read_in f (print (problem f t)) ≡ record { fate = going; problem = problem f t }
  rewritten t h =
      let r = stands f t h.0 h.1.0 h.1.1 in
      written (problem f t) (h.1, r.3) (fit_of f L t (pieces (problem f t)) 0 (length t) r.1) ∙ ap (λ (p : Problem). answer p) r.2

-- ---- 1: reading what was written gives the problem

pub written_read : (p : Problem) → Writable p → Fit (pieces p) → read_in loose (print p) ≡ answer (tidied p)
written_read p n g = written loose loose_lawful p n g

-- ---- 2: for accepted texts, the same problem exactly when the same canonical bytes

pub same_text : (t u : List ℕ) → Accepted loose t → Accepted loose u → (problem loose t ≡ problem loose u) ↔ (canonical t ≡ canonical u)
same_text t u h k = (
  ap print,
  λ e.
      let a = rewritten loose loose_lawful t h in
      let b = rewritten loose loose_lawful u k in
      ap (λ (r : Read). r.problem) (sym a ∙ ap (λ (w : List ℕ). read_in loose w) e ∙ b),
)

-- ---- 3: strict texts are given back, and only strict texts are written

-- the writer writes only strict texts
pub written_strict : (p : Problem) → Writable p → Fit (pieces p) → read_in strict (print p) ≡ answer (tidied p)
written_strict p n g = written strict strict_lawful p n g

-- a strict text is what is written of its problem
pub strict_is : (t : List ℕ) → Accepted strict t → print (problem strict t) ≡ t
unfolding print
strict_is t h =
    let r = stands strict t h.0 h.1.0 h.1.1 in
    let w = strict_text t (pieces (problem strict t)) 0 (length t) (omega arith) r.1 in
    sym (whole t (flat (pieces (problem strict t))) w.0 (sym (w.1 ∙ zero-add (length (flat (pieces (problem strict t)))))))

-- the loose reader reads it as the same problem
pub strict_loose : (t : List ℕ) → Accepted strict t → read_in loose t ≡ read_in strict t
strict_loose t h =
    let r = stands strict t h.0 h.1.0 h.1.1 in
    let p = problem strict t in
    let e = written loose loose_lawful p (h.1, r.3) (fit_of strict strict_lawful t (pieces p) 0 (length t) r.1) ∙ ap (λ (p : Problem). answer p) r.2 in
    let i : read_in loose t ≡ answer p = subst (λ (w : List ℕ). read_in loose w ≡ answer p) (strict_is t h) e in
    i ∙ sym (read_going t h.0)
  where
    read_going : (t : List ℕ) → (read_in strict t).fate ≡ going → read_in strict t ≡ answer (problem strict t)
    read_going t e = ap (λ (x : Fate). put x (problem strict t)) e

-- so that reading it and writing what was read gives it back, byte for byte
pub given_back : (t : List ℕ) → Accepted strict t → canonical t ≡ t
given_back t h = ap (λ (r : Read). print r.problem) (strict_loose t h) ∙ strict_is t h

-- the canonical text of an accepted text is accepted in both forms, and is its own canonical text
pub canonical_strict : (t : List ℕ) → Accepted loose t → read_in strict (canonical t) ≡ answer (problem loose t)
canonical_strict t h =
    let r = stands loose t h.0 h.1.0 h.1.1 in
    written strict strict_lawful (problem loose t) (h.1, r.3) (fit_of loose loose_lawful t (pieces (problem loose t)) 0 (length t) r.1) ∙ ap (λ (p : Problem). answer p) r.2

pub canonical_once : (t : List ℕ) → Accepted loose t → canonical (canonical t) ≡ canonical t
canonical_once t h = ap (λ (r : Read). print r.problem) (rewritten loose loose_lawful t h)
