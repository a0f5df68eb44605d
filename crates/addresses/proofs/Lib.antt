pub mod PutKeptSteps
