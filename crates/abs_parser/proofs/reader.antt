-- The steps of the parsing functions: for lists, for parts up to a closing token, and for each nonterminal. A step
-- reads a token, a name or a part after what was read of a nonterminal so far. In the end the nonterminal is found, or
-- it is refused.
pub mod FoundLemmas
pub mod StepLemmas
pub mod ResultLemmas
pub mod PatternSteps
pub mod KeywordSteps
pub mod InFrontSteps
pub mod ParenthesisSteps
pub mod ListSteps
pub mod ListLemmas
pub mod ClimbingLemmas
pub mod RepeatSteps
pub mod PrimarySteps
pub mod ExpressionSteps
pub mod CaseSteps
pub mod GuardSteps
pub mod KeywordStatementSteps
pub mod RightSideSteps
pub mod PlainSteps
pub mod NameListSteps
pub mod ParameterSteps
pub mod DeclarationSteps
pub mod SignatureSteps
pub mod PreambleSteps
pub mod MemberSteps
pub mod ClassSteps
pub mod DeclarationListSteps
pub mod LocalSteps
pub mod RestSteps
pub mod FirstSteps
pub mod StatementSteps
pub mod BlockSteps
pub mod WrittenLemmas
pub mod WholeSteps
