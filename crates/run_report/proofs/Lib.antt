pub mod OneProgram
