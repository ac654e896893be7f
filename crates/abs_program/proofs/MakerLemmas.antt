-- What the maker of instructions made, from the last statement back to the first: of two parts together, of each form
-- of statement, and of the items of a list one by one.
use Rattle.std.proofs.Common.{◌≡◌, ℕ, ◌+◌, ◌≤◌, List, [], ◌∷◌, ◌++◌, arith, refl, sym, ap, ◌∙◌, subst, map, append_assoc}
use Rattle.std.specs.Prelude.{Option, Some, None, reverse}
use Rattle.std.specs.declared.alloc.Global.{Global}
use Rattle.std.specs.declared.vec.Vec.{Vec}
use Rattle.std.proofs.lemmas.List.{append-nil, append_cancel_right, map-append, same_from_push}
use Rattle.abs_program.proofs.CountLemmas.{Adds, members_add, decls_add, size-append, sizes-append}
use Rattle.abs_tree.proofs.StatementLemmas.{HoldsNone}
use Rattle.abs_program.specs.Control.{Goes, Point, ByAnswer, entry, entry_of, else_entry, points, points_of, else_points, member_points, decl_points}
use Rattle.abs_program.specs.InstructionViews.{instruction_tree}
use Rattle.abs_program.specs.Instructions.{InstructionTree, instruction_of, instructions}
use Rattle.abs_program.specs.MadeInstructions.{made_by, loop_sizes, Counts, MayMake, Makes, MadeOne, MadeStatement, MadeStatements, MadeOther, MadeBranches, MadeBody, MadeMembers, MadeDecls, MayEnter, Entered, MayMakeLoop, MayMakeStatements}
use Rattle.abs_tree.specs.Syntax.{Name, ExprTree, Statement, BlockOf, IfOf, WhileOf, MaybeStatements, NoElse, Else, Statements, NoStatement, NextStatement, MemberTree, FieldTree, MethodTree, DeclTree, DataTree, FunctionTree, InterfaceTree, ClassTree, SourceTree}
use Rattle.abs_tree.specs.SyntaxSizes.{count_of, statement_count, member_statements, decl_statements}
use Rattle.abs_tree.specs.SyntaxViews.{member_tree, decl_tree}
use Rattle.abs_tree.specs.declared.place.Place.{Place}
use Rattle.abs_tree.specs.declared.syntax.declaration.Decl.{Decl}
use Rattle.abs_tree.specs.declared.syntax.declaration.Member.{Member}
use Rattle.abs_program.specs.declared.tables.control.Instruction.{Instruction}
use Rattle.abs_program.specs.declared.tables.control.Successor.{Successor}
use Rattle.abs_program.specs.declared.tables.control.Successor.TheVariants as successor
use Rattle.abs_program.specs.declared.tables.instructions.Maker.{Maker}

-- a maker has made no instructions at first
pub makes_none : (names : List Name) (maker : Maker) → Makes names 0 [] [] maker maker
makes_none names maker =
    record { next_is = omega arith; loops_are = sym (append-nil maker.loops.items); made_are = refl }

-- it makes those of a later part, and then those of an earlier one
pub makes_both : {names : List Name} {count earlier_count : ℕ} {sizes earlier_sizes : List ℕ}
    {made earlier : List Point} {old between new : Maker} → Makes names count sizes made old between
    → Makes names earlier_count earlier_sizes earlier between new
    → Makes names (earlier_count + count) (earlier_sizes ++ sizes) (earlier ++ made) old new
makes_both {names} {sizes = sizes} {earlier_sizes = earlier_sizes} {made = made} {earlier = earlier} {old = old}
    {new = new} last first = record {
      next_is = omega (arith, last.next_is, first.next_is);
      loops_are =
          last.loops_are
          ∙ (ap (λ (loops : List ℕ). loops ++ sizes) first.loops_are
          ∙ append_assoc new.loops.items earlier_sizes sizes);
      made_are =
          first.made_are
          ∙ (ap (λ (others : List InstructionTree). map instruction_of earlier ++ others) last.made_are
          ∙ (sym (append_assoc (map instruction_of earlier) (map instruction_of made) (made_by names old))
          ∙ ap (λ (all : List InstructionTree). all ++ made_by names old)
          (sym (map-append instruction_of earlier made))));
    }

-- what was made may be said in other words
makes_also : {names : List Name} {count other_count : ℕ} {sizes other_sizes : List ℕ} {made other : List Point}
    {old new : Maker} → Makes names count sizes made old new → count ≡ other_count → sizes ≡ other_sizes → made ≡ other
    → Makes names other_count other_sizes other old new
makes_also {names} {old = old} {new} makes count_is sizes_are made_is = record {
  next_is = omega (arith, makes.next_is, count_is);
  loops_are = makes.loops_are ∙ ap (λ (loops : List ℕ). new.loops.items ++ loops) sizes_are;
  made_are =
      makes.made_are ∙ ap (λ (all : List Point). map instruction_of all ++ made_by names old) made_is;
}

-- what is alone is made as itself
pub makes_alone : {names : List Name} {count : ℕ} {sizes : List ℕ} {made : List Point} {old new : Maker}
    → Makes names count sizes made old new → Makes names (count + 0) (sizes ++ []) (made ++ []) old new
makes_alone {sizes = sizes} {made} makes =
    makes_also makes (omega arith) (sym (append-nil sizes)) (sym (append-nil made))

-- a maker may make what was counted
pub may_make_counted : {size count : ℕ} {sizes old : List ℕ} {maker : Maker}
    → Counts size sizes count old maker.loops.items → maker.next ≡ count → MayMake size sizes maker
may_make_counted {old = old} counts next_is =
    record { room = omega (arith, counts.count_is, next_is); earlier = old; loops_are = counts.loops_are }

-- a maker that may make more may make fewer
pub may_make_fewer : {count more : ℕ} {sizes : List ℕ} {maker : Maker} → count ≤ more → MayMake more sizes maker
    → MayMake count sizes maker
may_make_fewer fewer may =
    record { room = omega (arith, fewer, may.room); earlier = may.earlier; loops_are = may.loops_are }

-- a maker that may make both parts may make the later one
pub may_make_last : (earlier_count : ℕ) {count : ℕ} (earlier_sizes : List ℕ) {sizes : List ℕ} {old : Maker}
    → MayMake (earlier_count + count) (earlier_sizes ++ sizes) old → MayMake count sizes old
may_make_last earlier_count earlier_sizes {sizes} may = record {
  room = omega (arith, may.room);
  earlier = may.earlier ++ earlier_sizes;
  loops_are = may.loops_are ∙ sym (append_assoc may.earlier earlier_sizes sizes);
}

-- and after that the earlier one
pub may_make_first : {names : List Name} {earlier_count count : ℕ} {earlier_sizes sizes : List ℕ} {made : List Point}
    {old between : Maker} → MayMake (earlier_count + count) (earlier_sizes ++ sizes) old
    → Makes names count sizes made old between → MayMake earlier_count earlier_sizes between
may_make_first {earlier_sizes = earlier_sizes} {sizes = sizes} {between = between} may last = record {
  room = omega (arith, may.room, last.next_is);
  earlier = may.earlier;
  loops_are =
      append_cancel_right between.loops.items (may.earlier ++ earlier_sizes) sizes
      (sym last.loops_are ∙ (may.loops_are ∙ sym (append_assoc may.earlier earlier_sizes sizes)));
}

-- no statements have no instructions
pub made_nothing : (names : List Name) (after : Option ℕ) (maker : Maker)
    → MadeStatements names NoStatement after after maker maker
unfolding entry points
made_nothing names after maker = record { first_is = refl; makes = makes_none names maker }

-- a statement is made before those that follow it
pub made_next : {names : List Name} {stmt : Statement} {others : Statements} {after between_first first : Option ℕ}
    {old between new : Maker} → MadeStatements names others after between_first old between
    → MadeStatement names stmt between_first first between new
    → MadeStatements names (NextStatement stmt others) after first old new
unfolding entry points
made_next {names} {stmt} {others} {after} {between_first} {first} {old} {between} {new} last made =
    let at : between.next ≡ new.next + count_of stmt = sym made.makes.next_is in
    let goes = λ (next : ℕ). entry next others after in
    let given = goes (new.next + count_of stmt) in
    let given_is : between_first ≡ given = last.first_is ∙ ap goes at in record {
      first_is = made.first_is ∙ ap (entry_of new.next stmt) given_is;
      makes = makes_also (makes_both last.makes made.makes) refl refl
          (ap (λ (goal : Option ℕ). points_of new.next stmt goal ++ points between.next others after) given_is
          ∙ ap (λ (next : ℕ). points_of new.next stmt given ++ points next others after) at);
    }

-- those of a block are those in it
pub made_block : {names : List Name} {place : Place} {block : Statements} {after first : Option ℕ} {old new : Maker}
    → MadeStatements names block after first old new → MadeStatement names (BlockOf place block) after first old new
unfolding entry points
made_block inside = record { first_is = inside.first_is; makes = inside.makes }

-- a missing branch has none, and another one those in it
pub made_no_other : (names : List Name) (after : Option ℕ) (maker : Maker)
    → MadeOther names NoElse after after maker maker
unfolding points
made_no_other names after maker = record { first_is = refl; makes = makes_none names maker }

pub made_other : {names : List Name} {branch : Statements} {after first : Option ℕ} {old new : Maker}
    → MadeStatements names branch after first old new → MadeOther names (Else branch) after first old new
unfolding points
made_other inside = record { first_is = inside.first_is; makes = inside.makes }

-- the branches of an `if`
pub made_branches : {names : List Name} {first : Statements} {second : MaybeStatements}
    {after when_true when_false : Option ℕ} {old between new : Maker}
    → MadeOther names second after when_false old between → MadeStatements names first after when_true between new
    → MadeBranches names first second after (successor.ByAnswer when_true when_false) old new
made_branches {names} {first} {second} {after} {when_true} {when_false} {old} {between} {new} other made =
    let at : between.next ≡ new.next + statement_count first = sym made.makes.next_is in record {
      goes_is = ap (λ (true_first : Option ℕ). ByAnswer true_first when_false) made.first_is
          ∙ ap (ByAnswer (entry new.next first after))
          (other.first_is ∙ ap (λ (next : ℕ). else_entry next second after) at);
      makes = makes_also (makes_both other.makes made.makes) refl refl
          (ap (λ (next : ℕ). points new.next first after ++ else_points next second after) at);
    }

-- the instruction of an `if` is made after those of its branches
if_made : {names : List Name} {own : ℕ} {place : Place} {condition : ExprTree} {first : Statements}
    {second : MaybeStatements} {after index : Option ℕ} {goes : Successor} {old between new : Maker}
    → MadeBranches names first second after goes old between
    → MadeOne names (IfOf own place condition first second) goes index between new
    → MadeStatement names (IfOf own place condition first second) after index old new
unfolding entry points
if_made {own = own} {place} {condition} {first} {second} {after} {between = between} {new} branches one =
    let at : between.next ≡ new.next + 1 = sym one.makes.next_is in
    let stmt = IfOf own place condition first second in
    let inside = λ (next : ℕ).
    points next first after ++ else_points (next + statement_count first) second after in
    let answer = λ (next : ℕ).
    ByAnswer (entry next first after) (else_entry (next + statement_count first) second after) in record {
      first_is = one.index_is;
      makes = makes_also (makes_both branches.makes one.makes) (omega arith) refl
          (ap (λ (given : Goes). record { statement = stmt; goes = given } ∷ inside between.next)
          (branches.goes_is ∙ ap answer at)
          ∙ ap (λ (next : ℕ). record { statement = stmt; goes = answer (new.next + 1) } ∷ inside next) at);
    }

-- so it is if the statement is known to be an `if`
pub made_if : {names : List Name} {stmt : Statement} {own : ℕ} {place : Place} {condition : ExprTree}
    {first : Statements} {second : MaybeStatements} {after index : Option ℕ} {goes : Successor}
    {old between new : Maker} → stmt ≡ IfOf own place condition first second
    → MadeBranches names first second after goes old between → MadeOne names stmt goes index between new
    → MadeStatement names stmt after index old new
made_if {names} {after = after} {index} {goes} {old} {between} {new} is branches one =
    subst (λ (tree : Statement). MadeStatement names tree after index old new) (sym is)
    (if_made branches (subst (λ (tree : Statement). MadeOne names tree goes index between new) is one))

-- a maker that may make a loop may enter it
pub may_enter : (body : Statements) {old : Maker} → MayMakeLoop body old → MayEnter old
may_enter body may = record {
  earlier = may.earlier ++ loop_sizes body;
  size = statement_count body;
  loops_are = may.loops_are ∙ sym (append_assoc may.earlier (loop_sizes body) (statement_count body ∷ []));
  room = omega (arith, may.room);
}

-- the loop that was entered has a body of this size
entered_size : (body : Statements) {own : ℕ} {old between : Maker}
    (may : MayMakeLoop body old) (entered : Entered own old between)
    → (between.loops.items ≡ may.earlier ++ loop_sizes body) × (entered.size ≡ statement_count body)
entered_size body {between = between} may entered =
    let size = statement_count body in
    same_from_push between.loops.items (may.earlier ++ loop_sizes body) entered.size size
    (sym entered.loops_are ∙ (may.loops_are ∙ sym (append_assoc may.earlier (loop_sizes body) (size ∷ []))))

-- then it may make the body
pub may_make_body : (body : Statements) {own : ℕ} {old between : Maker}
    → MayMakeLoop body old → Entered own old between → MayMakeStatements body between
may_make_body body may entered = record {
  room = omega (arith, may.room, entered.next_is);
  earlier = may.earlier;
  loops_are = (entered_size body may entered).0;
}

-- The body of a loop. Its size is the same by all tables of names, of which the one that tells how many may be made is
-- another one.
pub made_body : {names others : List Name} {body : Statements} (other_body : Statements) {after when_true : Option ℕ}
    {own : ℕ} {old between new : Maker}
    → MayMakeLoop other_body old → Entered own old between → MadeStatements others other_body (Some own) when_true between new
    → MadeStatements names body (Some own) when_true between new
    → MadeBody names body after (successor.ByAnswer when_true after) old new
made_body {names} {body = body} other_body {after} {when_true} {own} {old} {between} {new} may entered other made =
    let size_is : entered.size ≡ statement_count body =
    omega (arith, (entered_size other_body may entered).1, other.makes.next_is, made.makes.next_is) in record {
      own = own;
      own_is = omega (arith, entered.index_is, made.makes.next_is);
      goes_is = ap (λ (first : Option ℕ). ByAnswer first after) made.first_is;
      makes = record {
        next_is = omega (arith, made.makes.next_is, entered.next_is);
        loops_are = entered.loops_are
            ∙ (ap (λ (loops : List ℕ). loops ++ entered.size ∷ []) made.makes.loops_are
            ∙ (append_assoc new.loops.items (loop_sizes body) (entered.size ∷ [])
            ∙ ap (λ (size : ℕ). new.loops.items ++ (loop_sizes body ++ size ∷ [])) size_is));
        made_are = made.makes.made_are
            ∙ ap (λ (row : Vec Instruction Global).
            map instruction_of (points new.next body (Some own)) ++ map (instruction_tree names) (reverse row.items))
            entered.instructions_are;
      };
    }

-- the instruction of a loop is made after those of its body
while_made : {names : List Name} {own : ℕ} {place : Place} {condition : ExprTree} {body : Statements}
    {after index : Option ℕ} {goes : Successor} {old between new : Maker}
    → MadeBody names body after goes old between
    → MadeOne names (WhileOf own place condition body) goes index between new
    → MadeStatement names (WhileOf own place condition body) after index old new
unfolding entry points
while_made {own = own} {place} {condition} {body} {after} {between = between} {new} inside one =
    let at : between.next ≡ new.next + 1 = sym one.makes.next_is in
    let own_is : inside.own ≡ new.next = omega (arith, inside.own_is, at) in
    let stmt = WhileOf own place condition body in
    let answer = λ (back : ℕ). ByAnswer (entry (new.next + 1) body (Some back)) after in record {
      first_is = one.index_is;
      makes = makes_also (makes_both inside.makes one.makes) refl refl
          (ap (λ (given : Goes). record { statement = stmt; goes = given } ∷ points between.next body (Some inside.own))
          inside.goes_is
          ∙ (ap (λ (next : ℕ). record {
            statement = stmt;
            goes = ByAnswer (entry next body (Some inside.own)) after;
          } ∷ points next body (Some inside.own)) at
          ∙ ap (λ (back : ℕ). record { statement = stmt; goes = answer back } ∷ points (new.next + 1) body (Some back))
          own_is));
    }

-- so it is if the statement is known to be a loop
pub made_while : {names : List Name} {stmt : Statement} {own : ℕ} {place : Place} {condition : ExprTree}
    {body : Statements} {after index : Option ℕ} {goes : Successor} {old between new : Maker}
    → stmt ≡ WhileOf own place condition body → MadeBody names body after goes old between
    → MadeOne names stmt goes index between new → MadeStatement names stmt after index old new
made_while {names} {after = after} {index} {goes} {old} {between} {new} is inside one =
    subst (λ (tree : Statement). MadeStatement names tree after index old new) (sym is)
    (while_made inside (subst (λ (tree : Statement). MadeOne names tree goes index between new) is one))

-- a statement that holds no others is made alone
pub made_alone : {names : List Name} (stmt : Statement) {after first : Option ℕ} {old new : Maker} → HoldsNone stmt
    → MadeOne names stmt (successor.Next after) first old new → MadeStatement names stmt after first old new
unfolding entry points
made_alone (BlockOf place block) none one = absurd none
made_alone (IfOf index place condition branch other) none one = absurd none
made_alone (WhileOf index place condition body) none one = absurd none
made_alone stmt none one = record { first_is = one.index_is; makes = one.makes }

-- in a list of which the last items were made, the one before them may be made
pub may_make_next : {A : Type 0} {size : List A → ℕ} {sizes : List A → List ℕ} {own : A → ℕ} {own_sizes : A → List ℕ}
    {names : List Name} {made : List Point} {old between : Maker} (items others : List A) (last : A) (done : List A)
    → Adds size sizes own own_sizes → items ≡ others ++ last ∷ done → MayMake (size items) (sizes items) old
    → Makes names (size done) (sizes done) made old between → MayMake (own last) (own_sizes last) between
may_make_next {size = size} {sizes} {own} {own_sizes} {old = old} items others last done adds is may makes =
    let count_is : size items ≡ size others + (own last + size done) =
    ap size is ∙ (size-append adds others (last ∷ done) ∙ ap (λ (n : ℕ). size others + n) (adds.next last done)) in
    let sizes_are : sizes items ≡ sizes others ++ (own_sizes last ++ sizes done) =
    ap sizes is
    ∙ (sizes-append adds others (last ∷ done)
    ∙ ap (λ (more : List ℕ). sizes others ++ more) (adds.next_sizes last done)) in
    let both : MayMake (size others + (own last + size done)) (sizes others ++ (own_sizes last ++ sizes done)) old =
    subst (λ (count : ℕ). MayMake count (sizes others ++ (own_sizes last ++ sizes done)) old) count_is
    (subst (λ (loops : List ℕ). MayMake (size items) loops old) sizes_are may) in
    may_make_first (may_make_last (size others) (sizes others) both) makes

-- after it was made, the last items with it were made
makes_next : {A : Type 0} {size : List A → ℕ} {sizes : List A → List ℕ} {own : A → ℕ} {own_sizes : A → List ℕ}
    {names : List Name} {old between new : Maker} (given : ℕ → List A → List Point) (last : A) (done : List A)
    → Adds size sizes own own_sizes
    → ((index : ℕ) (first : A) (others : List A)
    → given index (first ∷ others) ≡ given index (first ∷ []) ++ given (index + own first) others)
    → Makes names (size done) (sizes done) (given between.next done) old between
    → Makes names (own last) (own_sizes last) (given new.next (last ∷ [])) between new
    → Makes names (size (last ∷ done)) (sizes (last ∷ done)) (given new.next (last ∷ done)) old new
makes_next {own = own} {between = between} {new} given last done adds next makes one =
    makes_also (makes_both makes one) (sym (adds.next last done)) (sym (adds.next_sizes last done))
    (ap (λ (index : ℕ). given new.next (last ∷ []) ++ given index done) (sym one.next_is)
    ∙ sym (next new.next last done))

-- the points of members are those of the first one and of the others
pub member_points-next : (index : ℕ) (first : MemberTree) (others : List MemberTree)
    → member_points index (first ∷ others)
    ≡ member_points index (first ∷ []) ++ member_points (index + member_statements (first ∷ [])) others
member_points-next index (FieldTree type name initial) others =
    ap (λ (next : ℕ). member_points next others) (omega arith)
member_points-next index (MethodTree signature end body) others =
    ap (λ (own : List Point). own ++ member_points (index + statement_count body) others)
    (sym (append-nil (points index body None)))
    ∙ ap (λ (next : ℕ). (points index body None ++ []) ++ member_points next others) (omega arith)

-- so are those of declarations
pub decl_points-next : (index : ℕ) (first : DeclTree) (others : List DeclTree)
    → decl_points index (first ∷ others)
    ≡ decl_points index (first ∷ []) ++ decl_points (index + decl_statements (first ∷ [])) others
decl_points-next index (DataTree place name type_params constructors) others =
    ap (λ (next : ℕ). decl_points next others) (omega arith)
decl_points-next index (FunctionTree place result name type_params params value) others =
    ap (λ (next : ℕ). decl_points next others) (omega arith)
decl_points-next index (InterfaceTree place name extended signatures) others =
    ap (λ (next : ℕ). decl_points next others) (omega arith)
decl_points-next index (ClassTree place name params implemented members) others =
    ap (λ (own : List Point). own ++ decl_points (index + member_statements members) others)
    (sym (append-nil (member_points index members)))
    ∙ ap (λ (next : ℕ). (member_points index members ++ []) ++ decl_points next others) (omega arith)

-- after a member was made, the last members with it were made
pub members_next : {names : List Name} {old between new : Maker} (last : Member) (done : List Member)
    → MadeMembers names (map (member_tree names) done) old between
    → MadeMembers names (member_tree names last ∷ []) between new
    → MadeMembers names (map (member_tree names) (last ∷ done)) old new
members_next {names} last done =
    makes_next (λ (index : ℕ) (members : List Member). member_points index (map (member_tree names) members)) last done
    (members_add names)
    (λ index first others. member_points-next index (member_tree names first) (map (member_tree names) others))

-- so it is with declarations
pub decls_next : {names : List Name} {old between new : Maker} (last : Decl) (done : List Decl)
    → MadeDecls names (map (decl_tree names) done) old between → MadeDecls names (decl_tree names last ∷ []) between new
    → MadeDecls names (map (decl_tree names) (last ∷ done)) old new
decls_next {names} last done =
    makes_next (λ (index : ℕ) (decls : List Decl). decl_points index (map (decl_tree names) decls)) last done
    (decls_add names)
    (λ index first others. decl_points-next index (decl_tree names first) (map (decl_tree names) others))

-- when the instructions of the main block and then those of declarations were made, they are those of the program
pub instructions_made : {names : List Name} (source : SourceTree) {old between new : Maker}
    → Makes names (statement_count source.main) (loop_sizes source.main) (points between.next source.main None) old
    between
    → MadeDecls names source.declarations between new
    → old.next ≡ decl_statements source.declarations + statement_count source.main → old.instructions.items ≡ []
    → made_by names new ≡ instructions source
unfolding instructions
instructions_made {names} source {old} {between} {new} main others next_is none =
    let decls = source.declarations in
    let at : between.next ≡ decl_statements decls = omega (arith, main.next_is, next_is) in
    let start : new.next ≡ 0 = omega (arith, others.next_is, at) in
    let in_order = λ (first next : ℕ). map instruction_of (decl_points first decls ++ points next source.main None) in
    (makes_both main others).made_are
    ∙ (ap (λ (made : List Instruction).
    in_order new.next between.next ++ map (instruction_tree names) (reverse made)) none
    ∙ (append-nil (in_order new.next between.next)
    ∙ (ap (λ (first : ℕ). in_order first between.next) start ∙ ap (in_order 0) at)))
