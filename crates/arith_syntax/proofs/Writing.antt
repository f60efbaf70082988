-- Trees are written out as instructions, and built from them again.
use Rattle.std.proofs.Common.{◌≡◌, ℕ, ◌≤◌, List, [], ◌∷◌, ◌++◌, Result, Ok, Err, refl, sym, ap, subst, ◌∙◌, append_assoc}
use Rattle.std.specs.List.{AllByRecursion}
use Rattle.arith_syntax.specs.declared.instruction.Instruction.{Instruction}
use Rattle.arith_syntax.specs.declared.instruction.Instruction.TheVariants.{Open, Close, Sign, Apply, Infix, Combine, Then, Else, Choose, Target, Store, Finish}
use Rattle.arith_syntax.specs.Tree.{Tree, Constant, Variable, Parenthesized, Unary, Operation, Conditional, Assignment}
use Rattle.arith_syntax.specs.Grammar.{Fits}
use Rattle.arith_syntax.specs.Reading.{State, nothing_read}
use Rattle.std.specs.Prelude.{reverse}
use Rattle.std.proofs.Common.{length, ◌≢◌}
use Rattle.std.proofs.lemmas.List.{append-nil, reverse-append, reverse-reverse}
use Rattle.arith_syntax.specs.declared.error.SyntaxError.{SyntaxError}
use Rattle.arith_syntax.specs.declared.error.SyntaxError.TheVariants as errors
use Rattle.arith_syntax.specs.Grammar.{Grammar, FirstFault}
use Rattle.arith_syntax.specs.Lexical.{lexemes, scan}
use Rattle.arith_syntax.specs.Reading.{run}
use Rattle.arith_syntax.specs.Written.{instructions_of, all_written, trees_of, IsWhole}
use Rattle.arith_syntax.specs.Apart.{trees_back}
use Rattle.arith_syntax.proofs.Complete.{put, put_all, awaiting}
use Rattle.std.proofs.Common.{inl, inr}
use Rattle.std.proofs.lemmas.Bool.{cases_lt}
use Rattle.arith_syntax.proofs.Exact.{fault_read, long_fault}
use Rattle.arith_syntax.proofs.Faults.{read_program, fault_first, program_run}
use Rattle.arith_syntax.proofs.Words.{lexemes_proper}

-- what is written tells its trees
pub written_once : (a b : List Tree) → all_written a ≡ all_written b → a ≡ b
written_once a b e = sym (trees_back a) ∙ ap trees_of e ∙ trees_back b

-- a list on top of another, the last first
abbrev onto : List Instruction → List Instruction → List Instruction
onto [] code = code
onto (x ∷ xs) code = onto xs (x ∷ code)

onto_append : (xs ys code : List Instruction) → onto (xs ++ ys) code ≡ onto ys (onto xs code)
onto_append [] ys code = refl
onto_append (x ∷ xs) ys code = onto_append xs ys (x ∷ code)

onto_reverse : (xs code : List Instruction) → onto xs code ≡ reverse xs ++ code
onto_reverse [] code = refl
onto_reverse (x ∷ xs) code =
    onto_reverse xs (x ∷ code) ∙ sym (append_assoc (reverse xs) (x ∷ []) code) ∙ ap (λ l. l ++ code) (sym (reverse-append (x ∷ []) xs))

put_onto : (e : Tree) (code : List Instruction) → put e code ≡ onto (instructions_of e) code
put_onto (Constant n) code = refl
put_onto (Variable x) code = refl
put_onto (Parenthesized e) code = ap (λ l. Close ∷ l) (put_onto e (Open ∷ code)) ∙ sym (onto_append (instructions_of e) (Close ∷ []) (Open ∷ code))
put_onto (Unary op e) code = ap (λ l. Apply op ∷ l) (put_onto e (Sign op ∷ code)) ∙ sym (onto_append (instructions_of e) (Apply op ∷ []) (Sign op ∷ code))
put_onto (Operation op a b) code =
    ap (λ l. Combine op ∷ put b (Infix op ∷ l)) (put_onto a code)
    ∙ ap (λ l. Combine op ∷ l) (put_onto b (Infix op ∷ onto (instructions_of a) code))
    ∙ sym (onto_append (instructions_of b) (Combine op ∷ []) (Infix op ∷ onto (instructions_of a) code))
    ∙ sym (onto_append (instructions_of a) (Infix op ∷ (instructions_of b ++ Combine op ∷ [])) code)
put_onto (Conditional c a b) code =
    ap (λ l. Choose ∷ put b (Else ∷ put a (Then ∷ l))) (put_onto c code)
    ∙ ap (λ l. Choose ∷ put b (Else ∷ l)) (put_onto a (Then ∷ onto (instructions_of c) code))
    ∙ ap (λ l. Choose ∷ l) (put_onto b (Else ∷ onto (instructions_of a) (Then ∷ onto (instructions_of c) code)))
    ∙ sym (onto_append (instructions_of b) (Choose ∷ []) (Else ∷ onto (instructions_of a) (Then ∷ onto (instructions_of c) code)))
    ∙ sym (onto_append (instructions_of a) (Else ∷ (instructions_of b ++ Choose ∷ [])) (Then ∷ onto (instructions_of c) code))
    ∙ sym (onto_append (instructions_of c) (Then ∷ (instructions_of a ++ Else ∷ (instructions_of b ++ Choose ∷ []))) code)
put_onto (Assignment x op e) code = ap (λ l. Store x op ∷ l) (put_onto e (Target x op ∷ code)) ∙ sym (onto_append (instructions_of e) (Store x op ∷ []) (Target x op ∷ code))

put_all_onto : (trees : List Tree) (code : List Instruction) → put_all trees code ≡ onto (all_written trees) code
put_all_onto [] code = refl
put_all_onto (e ∷ trees) code =
    ap (λ l. put_all trees (Finish ∷ l)) (put_onto e code)
    ∙ put_all_onto trees (Finish ∷ onto (instructions_of e) code)
    ∙ ap (onto (all_written trees)) (sym (onto_append (instructions_of e) (Finish ∷ []) code))
    ∙ sym (onto_append (instructions_of e ++ Finish ∷ []) (all_written trees) code)

-- what the reader has for trees is their instructions, the last one first
pub put_all_is : (trees : List Tree) → put_all trees [] ≡ reverse (all_written trees)
put_all_is trees = put_all_onto trees [] ∙ onto_reverse (all_written trees) [] ∙ append-nil (reverse (all_written trees))

code_is : (code : List Instruction) (trees : List Tree) → reverse code ≡ put_all trees [] → code ≡ all_written trees
code_is code trees e = sym (reverse-reverse code) ∙ ap reverse (e ∙ put_all_is trees) ∙ reverse-reverse (all_written trees)

-- a text that was read, and its instructions
pub record WholeText (text : List ℕ) (code : List Instruction) : Type 0 where
  pub trees : List Tree
  pub grammar : Grammar text trees
  pub is : code ≡ all_written trees
  pub back : trees_of code ≡ trees

scan_lexemes : (text : List ℕ) → lexemes text ≡ scan 0 0 text
unfolding lexemes
scan_lexemes text = refl

pub whole_text : (text : List ℕ) (code : List Instruction) (s : State) → length text ≤ 65536 → run nothing_read (scan 0 0 text) ≡ Ok s → reverse code ≡ s.code → WholeText text code
whole_text text code s short r c =
    let read = read_program text s short (lexemes_proper text) (ap (run nothing_read) (scan_lexemes text) ∙ r) in
    let is = code_is code read.trees (c ∙ ap (λ (t : State). t.code) read.state) in
    record { trees = read.trees; grammar = read.grammar; is = is; back = ap trees_of is ∙ trees_back read.trees }

pub whole_code : (text : List ℕ) (code : List Instruction) → WholeText text code → IsWhole code
whole_code text code w =
    record {
      each = subst (AllByRecursion (Fits 64)) (sym w.back) w.grammar.program.each;
      is = w.is ∙ ap all_written (sym w.back);
    }

pub text_fault : (text : List ℕ) (e : SyntaxError) → length text ≤ 65536 → run nothing_read (scan 0 0 text) ≡ Err e → FirstFault text e
text_fault text e short r = fault_first text e short (lexemes_proper text) (ap (run nothing_read) (scan_lexemes text) ∙ r)

-- the text of a program has no fault, and no other program
pub no_fault : (text : List ℕ) (trees : List Tree) (e : SyntaxError) → Grammar text trees → run nothing_read (scan 0 0 text) ≡ Err e → ⊥
no_fault text trees e g r =
    let x : ◌≡◌ {A = Result State SyntaxError} (Err e) (Ok (awaiting (put_all trees []) [])) = sym r ∙ ap (run nothing_read) (sym (scan_lexemes text)) ∙ program_run text trees g in cc

ok_same : (s t : State) → ◌≡◌ {A = Result State SyntaxError} (Ok s) (Ok t) → s ≡ t
ok_same s t e = cc

pub one_program : (text : List ℕ) (a b : List Tree) → Grammar text a → Grammar text b → a ≡ b
one_program text a b g h =
    let e = ok_same (awaiting (put_all a []) []) (awaiting (put_all b []) []) (sym (program_run text a g) ∙ program_run text b h) in
    let same : reverse (all_written a) ≡ reverse (all_written b) = sym (put_all_is a) ∙ ap (λ (s : State). s.code) e ∙ put_all_is b in
    written_once a b (sym (reverse-reverse (all_written a)) ∙ ap reverse same ∙ reverse-reverse (all_written b))

-- the one first fault of a text
pub fault_only : (text : List ℕ) (e f : SyntaxError) → length text ≤ 65536 → FirstFault text e → e ≢ errors.OutOfMemory → run nothing_read (scan 0 0 text) ≡ Err f → f ≡ e
fault_only text e f short first nm r =
    let x : ◌≡◌ {A = Result State SyntaxError} (Err f) (Err e) = sym r ∙ ap (run nothing_read) (sym (scan_lexemes text)) ∙ fault_read text e (lexemes_proper text) first short nm in cc

pub fault_none : (text : List ℕ) (e : SyntaxError) (s : State) → length text ≤ 65536 → FirstFault text e → e ≢ errors.OutOfMemory → run nothing_read (scan 0 0 text) ≡ Ok s → ⊥
fault_none text e s short first nm r =
    let x : ◌≡◌ {A = Result State SyntaxError} (Ok s) (Err e) = sym r ∙ ap (run nothing_read) (sym (scan_lexemes text)) ∙ fault_read text e (lexemes_proper text) first short nm in cc

-- a text has one first fault
pub same_fault : (text : List ℕ) (d e : SyntaxError) → FirstFault text d → FirstFault text e → d ≢ errors.OutOfMemory → e ≢ errors.OutOfMemory → d ≡ e
same_fault text d e f g nd ne =
    elim (cases_lt 65536 (length text)) [
      | inl long ↦ long_fault text d long f nd ∙ sym (long_fault text e long g ne)
      | inr short ↦
          let x : ◌≡◌ {A = Result State SyntaxError} (Err d) (Err e) = sym (fault_read text d (lexemes_proper text) f short nd) ∙ fault_read text e (lexemes_proper text) g short ne in cc
    ]

-- and no program beside it
pub fault_or_program : (text : List ℕ) (trees : List Tree) (e : SyntaxError) → Grammar text trees → FirstFault text e → e ≢ errors.OutOfMemory → ⊥
fault_or_program text trees e g f ne =
    let x : ◌≡◌ {A = Result State SyntaxError} (Err e) (Ok (awaiting (put_all trees []) [])) = sym (fault_read text e (lexemes_proper text) f g.short ne) ∙ program_run text trees g in cc
