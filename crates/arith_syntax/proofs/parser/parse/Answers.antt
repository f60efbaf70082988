use Rattle.std.proofs.Common.{ℕ, ◌≢◌, ◌≡◌, ◌∙◌, ◌≤◌, sym, ap, subst, length, List, refl, Err, Ok, Result, arith, inl, inr}
use Rattle.std.specs.Prelude.{◌⊎◌, MatchResult, IfErr}
use Rattle.std.proofs.lemmas.Result.{err_from_is_err_and}
use Rattle.arith_syntax.specs.declared.error.SyntaxError.{SyntaxError}
use Rattle.arith_syntax.specs.declared.error.SyntaxError.TheVariants.{OutOfMemory, BadToken, BadSyntax, TooDeep, ConstantTooLarge, TooLong}
use Rattle.arith_syntax.specs.Tree.{Tree}
use Rattle.arith_syntax.specs.Grammar.{Grammar, FirstFault, IsFault}
use Rattle.arith_syntax.specs.Lexical.{scan}
use Rattle.arith_syntax.specs.Reading.{run, nothing_read}
use Rattle.arith_syntax.proofs.Writing.{whole_text, whole_code, text_fault, no_fault, one_program, fault_only, fault_none}
use Rattle.arith_syntax.proofs.parser.parse.Goals as goal

-- what stands after a fault
only_memory : (text : List ℕ) (e : SyntaxError) → (e ≡ OutOfMemory) ⊎ (run nothing_read (scan 0 0 text) ≡ Err e) → (trees : List Tree) → Grammar text trees → e ≡ OutOfMemory
only_memory text e (inl m) trees g = m
only_memory text e (inr r) trees g = absurd (no_fault text trees e g r)

first_or_memory : (text : List ℕ) (e : SyntaxError) → length text ≤ 65536 → (e ≡ OutOfMemory) ⊎ (run nothing_read (scan 0 0 text) ≡ Err e) → FirstFault text e
first_or_memory text e short (inl m) = subst (FirstFault text) (sym m) tt
first_or_memory text e short (inr r) = text_fault text e short r

pub returns-in_err-reader-clause-only : goal.returns-in_err-reader-clause-only
returns-in_err-reader-clause-only c =
    let p = err_from_is_err_and c.from_residual.result c.from_residual.ensures.1 in
    let here = subst (λ t. (c.in_err-reader.field-0.0 ≡ OutOfMemory) ⊎ (run nothing_read (scan 0 0 t) ≡ Err c.in_err-reader.field-0.0)) c.as_bytes.ensures.value c.in_err-reader.ensures.err in
    λ trees g. subst (λ (r : Result (List Tree) SyntaxError). MatchResult r (λ q. q ≡ trees) (λ e. e ≡ OutOfMemory)) (sym p.1)
    (p.2 ∙ only_memory c.args.text.now c.in_err-reader.field-0.0 here trees g)

pub returns-in_err-reader-clause-fault : goal.returns-in_err-reader-clause-fault
returns-in_err-reader-clause-fault c =
    let p = err_from_is_err_and c.from_residual.result c.from_residual.ensures.1 in
    let here = subst (λ t. (c.in_err-reader.field-0.0 ≡ OutOfMemory) ⊎ (run nothing_read (scan 0 0 t) ≡ Err c.in_err-reader.field-0.0)) c.as_bytes.ensures.value c.in_err-reader.ensures.err in
    let short : length c.args.text.now ≤ 65536 = omega arith in
    subst (λ (r : Result (List Tree) SyntaxError). IfErr r (λ e. FirstFault c.args.text.now e)) (sym p.1)
    (subst (FirstFault c.args.text.now) (sym p.2) (first_or_memory c.args.text.now c.in_err-reader.field-0.0 short here))

pub from_code-requires : goal.from_code-requires
from_code-requires c =
    let short : length c.args.text.now ≤ 65536 = omega arith in
    let r = subst (λ t. run nothing_read (scan 0 0 t) ≡ Ok c.in_ok-reader.reader) c.as_bytes.ensures.value c.in_ok-reader.ensures.ok in
    whole_code c.args.text.now c.into_code.result.items (whole_text c.args.text.now c.into_code.result.items c.in_ok-reader.reader short r c.into_code.ensures)

pub returns-clause-grammar : goal.returns-clause-grammar
returns-clause-grammar c =
    let short : length c.args.text.now ≤ 65536 = omega arith in
    let r = subst (λ t. run nothing_read (scan 0 0 t) ≡ Ok c.in_ok-reader.reader) c.as_bytes.ensures.value c.in_ok-reader.ensures.ok in
    let w = whole_text c.args.text.now c.into_code.result.items c.in_ok-reader.reader short r c.into_code.ensures in
    subst (Grammar c.args.text.now) (sym (c.from_code.ensures ∙ w.back)) w.grammar

pub returns-clause-only : goal.returns-clause-only
returns-clause-only c =
    let short : length c.args.text.now ≤ 65536 = omega arith in
    let r = subst (λ t. run nothing_read (scan 0 0 t) ≡ Ok c.in_ok-reader.reader) c.as_bytes.ensures.value c.in_ok-reader.ensures.ok in
    let w = whole_text c.args.text.now c.into_code.result.items c.in_ok-reader.reader short r c.into_code.ensures in
    λ trees g. c.from_code.ensures ∙ w.back ∙ one_program c.args.text.now w.trees trees w.grammar g

same_fault : (e : SyntaxError) → IsFault {X = List Tree} e (Err e)
same_fault (BadToken at) = refl
same_fault (BadSyntax at) = refl
same_fault (TooDeep at) = refl
same_fault (ConstantTooLarge at) = refl
same_fault TooLong = refl
same_fault OutOfMemory = tt

-- a fault that isn't want of memory is the only one
one_fault : (text : List ℕ) (d e : SyntaxError) → length text ≤ 65536 → (d ≡ OutOfMemory) ⊎ (run nothing_read (scan 0 0 text) ≡ Err d) → FirstFault text e → e ≢ OutOfMemory → IsFault {X = List Tree} e (Err d)
one_fault text d e short (inl m) first nm = subst (λ f. IsFault {X = List Tree} e (Err f)) (sym m) tt
one_fault text d e short (inr r) first nm = subst (λ f. IsFault {X = List Tree} e (Err f)) (sym (fault_only text e d short first nm r)) (same_fault e)

pub returns-in_err-reader-clause-faults : goal.returns-in_err-reader-clause-faults
returns-in_err-reader-clause-faults c =
    let p = err_from_is_err_and c.from_residual.result c.from_residual.ensures.1 in
    let here = subst (λ t. (c.in_err-reader.field-0.0 ≡ OutOfMemory) ⊎ (run nothing_read (scan 0 0 t) ≡ Err c.in_err-reader.field-0.0)) c.as_bytes.ensures.value c.in_err-reader.ensures.err in
    let short : length c.args.text.now ≤ 65536 = omega arith in
    λ e first nm. subst (λ (r : Result (List Tree) SyntaxError). IsFault e r) (sym (p.1 ∙ ap Err p.2))
    (one_fault c.args.text.now c.in_err-reader.field-0.0 e short here first nm)

pub returns-clause-faults : goal.returns-clause-faults
returns-clause-faults c =
    let short : length c.args.text.now ≤ 65536 = omega arith in
    let r = subst (λ t. run nothing_read (scan 0 0 t) ≡ Ok c.in_ok-reader.reader) c.as_bytes.ensures.value c.in_ok-reader.ensures.ok in
    λ e first nm. fault_none c.args.text.now e c.in_ok-reader.reader short first nm r
