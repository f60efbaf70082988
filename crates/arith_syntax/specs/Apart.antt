-- Programs are told apart by their instructions, from which their trees are built again.
use Rattle.std.specs.Prelude.{◌≡◌, List, [], ◌∷◌, ◌++◌, reverse, refl}
use Rattle.std.specs.Coded.{Coded, code_by}
use Rattle.std.proofs.Common.{sym, ap, ◌∙◌, append_assoc}
use Rattle.std.proofs.lemmas.List.{append-nil, reverse-append, reverse-reverse}
use Rattle.arith_syntax.specs.declared.instruction.Instruction.{Instruction}
use Rattle.arith_syntax.specs.declared.instruction.Instruction.TheVariants.{Close, Apply, Infix, Combine, Then, Else, Choose, Store, Finish}
use Rattle.arith_syntax.specs.Tree.{Tree, Constant, Variable, Parenthesized, Unary, Operation, Conditional, Assignment}
use Rattle.arith_syntax.specs.Written.{instructions_of, all_written, built, trees_of}

-- the instructions of an expression build it
pub built_one : (trees : List Tree) (e : Tree) (more : List Instruction) → built trees (instructions_of e ++ more) ≡ built (e ∷ trees) more
built_one trees (Constant n) more = refl
built_one trees (Variable x) more = refl
built_one trees (Parenthesized e) more =
    ap (built trees) (append_assoc (instructions_of e) (Close ∷ []) more) ∙ built_one trees e (Close ∷ more)
built_one trees (Unary op e) more =
    ap (built trees) (append_assoc (instructions_of e) (Apply op ∷ []) more) ∙ built_one trees e (Apply op ∷ more)
built_one trees (Operation op a b) more =
    ap (built trees) (append_assoc (instructions_of a) (Infix op ∷ (instructions_of b ++ Combine op ∷ [])) more)
    ∙ built_one trees a (Infix op ∷ ((instructions_of b ++ Combine op ∷ []) ++ more))
    ∙ ap (built (a ∷ trees)) (append_assoc (instructions_of b) (Combine op ∷ []) more)
    ∙ built_one (a ∷ trees) b (Combine op ∷ more)
built_one trees (Conditional c a b) more =
    ap (built trees) (append_assoc (instructions_of c) (Then ∷ (instructions_of a ++ Else ∷ (instructions_of b ++ Choose ∷ []))) more)
    ∙ built_one trees c (Then ∷ ((instructions_of a ++ Else ∷ (instructions_of b ++ Choose ∷ [])) ++ more))
    ∙ ap (built (c ∷ trees)) (append_assoc (instructions_of a) (Else ∷ (instructions_of b ++ Choose ∷ [])) more)
    ∙ built_one (c ∷ trees) a (Else ∷ ((instructions_of b ++ Choose ∷ []) ++ more))
    ∙ ap (built (a ∷ c ∷ trees)) (append_assoc (instructions_of b) (Choose ∷ []) more)
    ∙ built_one (a ∷ c ∷ trees) b (Choose ∷ more)
built_one trees (Assignment x op e) more =
    ap (built trees) (append_assoc (instructions_of e) (Store x op ∷ []) more) ∙ built_one trees e (Store x op ∷ more)

built_all : (done trees : List Tree) → built done (all_written trees) ≡ reverse trees ++ done
built_all done [] = refl
built_all done (e ∷ trees) =
    ap (built done) (append_assoc (instructions_of e) (Finish ∷ []) (all_written trees))
    ∙ built_one done e (Finish ∷ all_written trees)
    ∙ built_all (e ∷ done) trees
    ∙ sym (append_assoc (reverse trees) (e ∷ []) done)
    ∙ ap (λ l. l ++ done) (sym (reverse-append (e ∷ []) trees))

-- the trees of what is written from them
pub trees_back : (trees : List Tree) → trees_of (all_written trees) ≡ trees
unfolding trees_of
trees_back trees = ap reverse (built_all [] trees ∙ append-nil (reverse trees)) ∙ reverse-reverse trees

-- a program is stored as its instructions
abbrev pub program_code : Coded (List Instruction) → Coded (List Tree)
program_code code = code_by (List Instruction) code all_written trees_of trees_back
