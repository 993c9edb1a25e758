-- What a text means: Source is the whole, and the others are its parts.
pub mod Number
pub mod Operand
pub mod Shape
pub mod Reading
pub mod Size
pub mod Placed
pub mod Emission
pub mod Named
pub mod Rows
pub mod Counts
pub mod Declarations
pub mod Union
pub mod Program
pub mod Tables
pub mod Fault
pub mod Source
pub mod Names
-- What follows from it: what laws say.
pub mod TwoWords
pub mod BaseLine
pub mod FamilyLines
-- How the assembler finds it, line by line: what private functions say.
pub mod ShapeRow
pub mod Gathering
pub mod Drafting
pub mod Finishing
pub mod ClaimRows
pub mod Farthest
pub mod Testing
pub mod Adding
pub mod AddedLine
pub mod Lookup
pub mod Whole
